-- What is promised of Ask and Put (SPEC, "Ask and Put"), of every row: what the slot that Ask names is, where it names none,
-- what an accepted Put does, and what a Put in the slot named is answered.
use Rattle.std.specs.Prelude.{ℕ, ◌<◌, ◌≡◌, true, false, List, ◌⊎◌, Ok, Err}
use Rattle.command.specs.Command.{is_command}
use Rattle.checks.specs.declared.Refusal.TheVariants.{NoCommand}
use Rattle.checks.specs.Refusals.{refusal_in}
use Rattle.state.specs.declared.Answer.TheVariants.{Done}
use Rattle.state.specs.declared.Step.TheVariants.{Offer}
use Rattle.layout.specs.Cells.{sizes_of, limits_of}
use Rattle.range.specs.Range.{in_range}
use Rattle.free_slots.specs.Ask.{free_at}
use Rattle.room.specs.Step.{answered, stepped}
use Rattle.free_slots.specs.Put.{put_answered, put_cells}

-- slot s of this room is free for server p, and no lower one is
pub record Names (cells : List ℕ) (p s : ℕ) : Type 0 where
  pub range : in_range cells ≡ true
  pub server : p < (sizes_of cells).servers
  pub slot : s < (sizes_of cells).slots
  pub free : free_at (sizes_of cells) cells p s ≡ true
  pub lower : (t : ℕ) → t < s → free_at (sizes_of cells) cells p t ≡ false

-- no slot of this room is free for server p
abbrev pub NoneFree : List ℕ → ℕ → Type 0
NoneFree cells p = (t : ℕ) → t < (sizes_of cells).slots → free_at (sizes_of cells) cells p t ≡ false

-- a Put answers and leaves what the step Offer does
pub record AsOffer (cells : List ℕ) (p s v : ℕ) : Type 0 where
  pub answers : put_answered cells p s v ≡ answered cells (Offer p s v)
  pub leaves : put_cells cells p s v ≡ stepped cells (Offer p s v)

-- a Put of v is done if v is a command and refused with 5 if not, and meets no other refusal
pub record OnlyCommand (cells : List ℕ) (p s v : ℕ) : Type 0 where
  pub command : is_command (limits_of cells) v ≡ true → put_answered cells p s v ≡ Ok Done
  pub otherwise : is_command (limits_of cells) v ≡ false → put_answered cells p s v ≡ Err NoCommand
  pub no_other : (refusal_in (put_answered cells p s v) ≡ 0) ⊎ (refusal_in (put_answered cells p s v) ≡ 5)
