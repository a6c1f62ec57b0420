-- The one-value machine of a slot (SPEC, "The one-value machine"), and what it is to follow a run. A command is never 0,
-- so 0 stands for none.
use Rattle.std.specs.Prelude.{ℕ, ◌<◌, ◌≡◌}
use mathlib.Core.List.{List, [], ◌∷◌, Memᴰ}
use Rattle.state.specs.declared.Sizes.{Sizes}
use Rattle.state.specs.Server.{offer_of, output_of}
use Rattle.synod.specs.Slot.{updated}
use Rattle.layout.specs.Cells.{server_of}
use Rattle.history.specs.Calls.{Call, event_of, called}
use Rattle.history.specs.Run.{Move, Offers, Chooses, Fails, Rests, move_in}

-- each server's offer and output, the commands given, and the one chosen
pub record Machine : Type 0 where
  pub offers : ℕ → ℕ
  pub outputs : ℕ → ℕ
  pub given : List ℕ
  pub chosen : ℕ

-- before the first call
abbrev pub at_first : Machine
at_first = record { offers = λ p. 0; outputs = λ p. 0; given = []; chosen = 0 }

-- the machine after Offer(p, v)
abbrev pub after_offer : Machine → ℕ → ℕ → Machine
after_offer m p v =
    record { offers = updated m.offers p v; outputs = m.outputs; given = v ∷ m.given; chosen = m.chosen }

-- the machine after Choose(p), where v is chosen
abbrev pub after_choose : Machine → ℕ → ℕ → Machine
after_choose m p v = record { offers = m.offers; outputs = updated m.outputs p v; given = m.given; chosen = v }

-- the machine after Fail(p)
abbrev pub after_fail : Machine → ℕ → Machine
after_fail m p =
    record { offers = updated m.offers p 0; outputs = updated m.outputs p 0; given = m.given; chosen = m.chosen }

-- Choose(p): p has no output; what was chosen stays, or some member of given is chosen
pub record Choose (m : Machine) (p : ℕ) (n : Machine) : Type 0 where
  pub choice : ℕ
  pub no_output : m.outputs p ≡ 0
  pub member : m.chosen ≡ 0 → Memᴰ choice m.given
  pub keeps : (m.chosen ≡ 0 → ⊥) → choice ≡ m.chosen
  pub becomes : n ≡ after_choose m p choice

-- the move takes the machine from m to n
abbrev pub Makes : Move → Machine → Machine → Type 0
Makes (Offers p v) m n = n ≡ after_offer m p v
Makes (Chooses p) m n = Choose m p n
Makes (Fails p) m n = n ≡ after_fail m p
Makes Rests m n = n ≡ m

-- every server's offer and output in slot t equal the machine's
pub record Equal (z : Sizes) (t : ℕ) (m : Machine) (cells : List ℕ) : Type 0 where
  pub offers : (p : ℕ) → p < z.servers → offer_of (server_of z cells t p) ≡ m.offers p
  pub outputs : (p : ℕ) → p < z.servers → output_of (server_of z cells t p) ≡ m.outputs p

-- One path of machine states for the whole list of calls: each call and its answer make a move, and at the start and
-- after each call the offers and outputs of slot t equal the machine's.
pub data Follows (z : Sizes) (t : ℕ) : Machine → List ℕ → List Call → Type 0 where
  ends : {m : Machine} {cells : List ℕ} → Equal z t m cells → Follows z t m cells []
  goes
      : {m n : Machine} {cells : List ℕ} {c : Call} {cs : List Call} → Equal z t m cells
      → Makes (move_in t (event_of cells c)) m n → Follows z t n (called cells c) cs
      → Follows z t m cells (c ∷ cs)
