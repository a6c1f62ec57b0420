-- The ten rules (SPEC, "The ten steps"): for each kind its conditions in the order of their numbers, then its effect. The
-- record is taken as it stands, reached by a run or not.
use Rattle.std.specs.Prelude.{ℕ, Bool, true, false, not, ◌&&◌, ◌||◌, cond, eqb, ltb, Option, is_some, unwrap_or, Result}
use Rattle.checks.specs.declared.Refusal.{Refusal}
use Rattle.checks.specs.declared.Refusal.TheVariants.{NotOwnBallot, WrongPhase, DriveIsOff, NotWritten, NoMajority, BallotTooLow, NothingToTry, BallotsSpent}
use Rattle.checks.specs.Checks.{Checked, Must, Either, Gives, outcome}
use Rattle.ballot.specs.Ballot.{owned, next_own}
use Rattle.quorum.specs.Marks.{stands, marked, unmarked}
use Rattle.quorum.specs.Sets.{all_below, majority}
use Rattle.state.specs.declared.Block.{Block}
use Rattle.state.specs.declared.Server.{Server}
use Rattle.state.specs.declared.Step.{Step}
use Rattle.state.specs.declared.Step.TheVariants.{Offer, Recall, Rejoin, Bid, Write, Read, Finish, Fail, DriveOff, DriveOn}
use Rattle.state.specs.declared.Answer.{Answer}
use Rattle.state.specs.declared.Answer.TheVariants.{Done, Outbid, Chosen, Committed}
use Rattle.state.specs.Server.{with_offer, failed}
use Rattle.state.specs.View.{View, AtSlot, AtServer, AtDrive}
use Rattle.synod.specs.Changes.{read_bit, recalling, rejoining, bidding, writing, reading, proposing, agreeing}
use Rattle.synod.specs.Slot.{Slot, Config}

-- A rule gives the record of the step's server as it becomes, and the answer. A Write puts the own block of that record
-- on its drive too.
abbrev pub Rule : Type 0
Rule = Checked (Server × Answer)

abbrev pub does : Server → Answer → Rule
does v a = Gives (v, a)

-- what the rule says: that, or the refusal
abbrev pub Ruling : Type 0
Ruling = Result (Server × Answer) Refusal

abbrev pub ruling : Rule → Ruling
ruling = outcome

-- drive d is on; off is the cell of off marks
abbrev pub is_on : ℕ → ℕ → Bool
is_on off d = not (stands off d)

-- phase 1 or 2
abbrev pub balloting : Server → Bool
balloting v = eqb v.phase 1 || eqb v.phase 2

-- phase 1, 2 or 3
abbrev pub joined : Server → Bool
joined v = balloting v || eqb v.phase 3

-- the drives on which server p's own block was recalled
abbrev pub recalled_on : Server → ℕ → ℕ → Bool
recalled_on v p d = stands v.read (read_bit d p)

-- q is p itself, or its block on drive d was read in this phase
abbrev pub other_read : Server → ℕ → ℕ → ℕ → Bool
other_read v p d q = eqb q p || stands v.read (read_bit d q)

-- every other server's block on drive d was read in this phase, in a room of n servers
abbrev pub others_read : ℕ → Server → ℕ → ℕ → Bool
others_read n v p d = all_below n (other_read v p d)

-- the drives written with every other server's block read there
abbrev pub complete_on : ℕ → Server → ℕ → ℕ → Bool
complete_on n v p d = stands v.written d && others_read n v p d

-- 1 Offer, in any phase
unfoldable pub offer_rule : Server → ℕ → Rule
offer_rule v command = does (with_offer v command) Done

-- 2 Recall, phase 0; off is the cell of off marks, b server p's block on drive d
unfoldable pub recall_rule : ℕ → Server → Block → ℕ → ℕ → Rule
recall_rule off v b p d =
    Must (eqb v.phase 0) WrongPhase
    (Must (is_on off d) DriveIsOff
    (does (recalling v b p d) Done))

-- 3 Rejoin, phase 0, a majority recalled, the ballot p's and above top
unfoldable pub rejoin_rule : ℕ → ℕ → Server → ℕ → ℕ → Rule
rejoin_rule servers drives v p ballot =
    Must (owned servers p ballot) NotOwnBallot
    (Must (eqb v.phase 0) WrongPhase
    (Must (majority drives (recalled_on v p)) NoMajority
    (Must (ltb v.top ballot) BallotTooLow
    (does (rejoining v ballot) Done))))

-- 4 Bid, phase 1 or 2, the ballot p's and above the own mbal
unfoldable pub bid_rule : ℕ → Server → ℕ → ℕ → Rule
bid_rule servers v p ballot =
    Must (owned servers p ballot) NotOwnBallot
    (Must (balloting v) WrongPhase
    (Must (ltb v.mbal ballot) BallotTooLow
    (does (bidding v ballot) Done)))

-- 5 Write, phase 1, 2 or 3
unfoldable pub write_rule : ℕ → Server → ℕ → Rule
write_rule off v d =
    Must (joined v) WrongPhase
    (Must (is_on off d) DriveIsOff
    (does (writing v d) Done))

-- outbid by a block with the ballot found; next is the server's least ballot above it
unfoldable pub outbid_rule : Server → ℕ → Option ℕ → Rule
outbid_rule v found next = Must (is_some next) BallotsSpent (does (bidding v (unwrap_or next 0)) (Outbid found))

-- the slot is settled with the command
abbrev pub agree_rule : Server → ℕ → Rule
agree_rule v command = does (agreeing v command) (Committed command)

-- a block says what the slot was settled with
abbrev pub learn_rule : Server → Block → Rule
learn_rule v b = agree_rule v b.done

-- 6 Read, phase 1 or 2, d written in this phase; b server q's block on drive d. A done is learned; only where there is none
-- do the ballots count
unfoldable pub read_rule : ℕ → ℕ → Server → Block → ℕ → ℕ → ℕ → Rule
read_rule servers off v b p d q =
    Must (balloting v) WrongPhase
    (Must (is_on off d) DriveIsOff
    (Must (stands v.written d) NotWritten
    (Either (not (eqb b.done 0))
    (learn_rule v b)
    (Either (ltb b.mbal v.mbal)
    (does (reading v b d q) Done)
    (outbid_rule v b.mbal (next_own servers p b.mbal))))))

-- the command of phase 1: seeninp, or offer if that is 0
abbrev pub command_of : Server → ℕ
command_of v = cond (eqb v.seeninp 0) v.offer v.seeninp

-- the command tried in phase 2 is settled
abbrev pub commit_rule : Server → Rule
commit_rule v = agree_rule v v.inp

-- 7 Finish, phase 1 or 2, a majority of drives written with every other server's block read there
unfoldable pub finish_rule : ℕ → ℕ → Server → ℕ → Rule
finish_rule servers drives v p =
    Must (balloting v) WrongPhase
    (Must (majority drives (complete_on servers v p)) NoMajority
    (Either (eqb v.phase 1)
    (Must (not (eqb (command_of v) 0)) NothingToTry (does (proposing v (command_of v)) (Chosen (command_of v))))
    (commit_rule v)))

-- 8 Fail, in every slot: nothing is left of the record
abbrev pub fail_rule : Rule
fail_rule = does failed Done

-- 9 DriveOff, 10 DriveOn: never refused. No record changes, and the one given here is stored nowhere; the mark of the
-- drive is set or removed.
abbrev pub drive_rule : Rule
drive_rule = does failed Done

-- the cell of off marks after a step: only the drive steps change it
abbrev pub off_after : ℕ → View → ℕ
off_after off (AtSlot p s k) = off
off_after off (AtServer p) = off
off_after off (AtDrive d true) = unmarked off d
off_after off (AtDrive d false) = marked off d

-- the rule of the step's kind at this slot; off is the cell of off marks
unfoldable pub rule_of : Config → ℕ → Slot → Step → Rule
rule_of c off σ (Offer p s v) = offer_rule (σ p).own v
rule_of c off σ (Recall p s d) = recall_rule off (σ p).own ((σ p).disk d) p d
rule_of c off σ (Rejoin p s b) = rejoin_rule c.servers c.drives (σ p).own p b
rule_of c off σ (Bid p s b) = bid_rule c.servers (σ p).own p b
rule_of c off σ (Write p s d) = write_rule off (σ p).own d
rule_of c off σ (Read p s d q) = read_rule c.servers off (σ p).own ((σ q).disk d) p d q
rule_of c off σ (Finish p s) = finish_rule c.servers c.drives (σ p).own p
rule_of c off σ (Fail p) = fail_rule
rule_of c off σ (DriveOff d) = drive_rule
rule_of c off σ (DriveOn d) = drive_rule
