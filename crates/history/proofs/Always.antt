-- What holds at every moment of a run may be weakened at every moment, and holds at the last.
use Prim.Native.Nat.{ℕ}
use mathlib.Core.List.{List, [], ◌∷◌}
use Rattle.history.specs.Calls.{Call, called}
use Rattle.history.specs.Run.{ran, Always}

pub always_map
    : (P Q : List ℕ → Type 0) → ((room : List ℕ) → P room → Q room) → (cells : List ℕ) (calls : List Call)
    → Always P cells calls → Always Q cells calls
unfolding Always
always_map P Q f cells [] a = f cells a
always_map P Q f cells (c ∷ cs) a = (f cells a.0, always_map P Q f (called cells c) cs a.1)

pub at_last : (P : List ℕ → Type 0) (cells : List ℕ) (calls : List Call) → Always P cells calls → P (ran cells calls)
unfolding Always ran
at_last P cells [] a = a
at_last P cells (c ∷ cs) a = at_last P (called cells c) cs a.1
