-- The server record, the ways in which it changes, and what it shows (SPEC, "The room in memory", "The ten steps", "The
-- one-value machine"). The four with… are the only places that name every cell of a changed record.
use Rattle.std.specs.Prelude.{ℕ, Bool, not, ◌&&◌, cond, eqb}
use Rattle.state.specs.declared.Block.{Block}
use Rattle.state.specs.declared.Server.{Server}

-- the record in this phase and with these own mbal, bal and inp
abbrev pub with_own : Server → ℕ → ℕ → ℕ → ℕ → Server
with_own v phase mbal bal inp =
    record {
      phase = phase;
      mbal = mbal;
      bal = bal;
      inp = inp;
      offer = v.offer;
      top = v.top;
      seenbal = v.seenbal;
      seeninp = v.seeninp;
      written = v.written;
      read = v.read;
      agreed = v.agreed;
    }

-- the record with this offer
abbrev pub with_offer : Server → ℕ → Server
with_offer v offer =
    record {
      phase = v.phase;
      mbal = v.mbal;
      bal = v.bal;
      inp = v.inp;
      offer = offer;
      top = v.top;
      seenbal = v.seenbal;
      seeninp = v.seeninp;
      written = v.written;
      read = v.read;
      agreed = v.agreed;
    }

-- the record with these notes of its phase
abbrev pub with_notes : Server → ℕ → ℕ → ℕ → ℕ → ℕ → Server
with_notes v top seenbal seeninp written read =
    record {
      phase = v.phase;
      mbal = v.mbal;
      bal = v.bal;
      inp = v.inp;
      offer = v.offer;
      top = top;
      seenbal = seenbal;
      seeninp = seeninp;
      written = written;
      read = read;
      agreed = v.agreed;
    }

-- the record in phase 3, where the slot is settled with this command
abbrev pub with_agreed : Server → ℕ → Server
with_agreed v command =
    record {
      phase = 3;
      mbal = v.mbal;
      bal = v.bal;
      inp = v.inp;
      offer = v.offer;
      top = v.top;
      seenbal = v.seenbal;
      seeninp = v.seeninp;
      written = v.written;
      read = v.read;
      agreed = command;
    }

-- clear: no marks and no top, and the own bal and inp are the best seen
abbrev pub cleared : Server → Server
cleared v = with_notes v 0 v.bal v.inp 0 0

-- a server that has failed keeps nothing: every cell is 0
abbrev pub failed : Server
failed =
    record { phase = 0; mbal = 0; bal = 0; inp = 0; offer = 0; top = 0; seenbal = 0; seeninp = 0; written = 0; read = 0; agreed = 0 }

-- the command that the slot was settled with, as far as the server knows: 0 is none
abbrev pub output_of : Server → ℕ
output_of v = cond (eqb v.phase 3) v.agreed 0

-- the block that the server writes to a drive: its own mbal, bal and inp, and its output as done
abbrev pub own_block : Server → Block
own_block v = record { mbal = v.mbal; bal = v.bal; inp = v.inp; done = output_of v }

-- the command that the server offers: 0 is none
abbrev pub offer_of : Server → ℕ
offer_of v = v.offer

-- whether the slot is free for the server: it offers nothing there and is not in phase 3
abbrev pub is_free : Server → Bool
is_free v = eqb (offer_of v) 0 && not (eqb v.phase 3)
