-- What an accepted step makes of a server's record (SPEC, "The ten steps").
use Rattle.std.specs.Prelude.{cond, ℕ, ◌+◌, ◌*◌, max, ltb}
use Rattle.quorum.specs.Marks.{marked}
use Rattle.state.specs.declared.Block.{Block}
use Rattle.state.specs.declared.Server.{Server}
use Rattle.state.specs.Server.{with_own, with_notes, with_agreed, cleared}

-- the bit of server q's block on drive d in the read marks
abbrev pub read_bit : ℕ → ℕ → ℕ
read_bit d q = 4 * d + q

-- the block b, met in this phase: a larger bal replaces seenbal and seeninp
unfoldable pub meeting : Server → Block → Server
meeting v b =
    with_notes v v.top
    (cond (ltb v.seenbal b.bal) b.bal v.seenbal)
    (cond (ltb v.seenbal b.bal) b.inp v.seeninp)
    v.written v.read

-- server q's block on drive d was read in this phase
unfoldable pub marking : Server → ℕ → ℕ → Server
marking v d q = with_notes v v.top v.seenbal v.seeninp v.written (marked v.read (read_bit d q))

-- top becomes the larger of itself and the mbal
unfoldable pub topping : Server → ℕ → Server
topping v mbal = with_notes v (max v.top mbal) v.seenbal v.seeninp v.written v.read

-- phase 3, agreed becomes the command; clear. The own mbal, bal and inp stay
unfoldable pub agreeing : Server → ℕ → Server
agreeing v command = cleared (with_agreed v command)

-- 2 Recall: server p's own block b on drive d is read; its done is not looked at
unfoldable pub recalling : Server → Block → ℕ → ℕ → Server
recalling v b p d = meeting (topping (marking v d p) b.mbal) b

-- 3 Rejoin: the own block becomes the ballot with the best bal and inp recalled; phase 1; clear
unfoldable pub rejoining : Server → ℕ → Server
rejoining v ballot = cleared (with_own v 1 ballot v.seenbal v.seeninp)

-- 4 Bid: mbal becomes the ballot; phase 1; clear
unfoldable pub bidding : Server → ℕ → Server
bidding v ballot = cleared (with_own v 1 ballot v.bal v.inp)

-- 5 Write: the drive is marked as written
unfoldable pub writing : Server → ℕ → Server
writing v d = with_notes v v.top v.seenbal v.seeninp (marked v.written d) v.read

-- 6 Read, not outbid: the block is marked as read and met
unfoldable pub reading : Server → Block → ℕ → ℕ → Server
reading v b d q = meeting (marking v d q) b

-- 7 Finish, phase 1: bal becomes mbal, inp the command; phase 2; clear
unfoldable pub proposing : Server → ℕ → Server
proposing v command = cleared (with_own v 2 v.mbal v.mbal command)
