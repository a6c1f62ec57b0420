-- One slot as the rules see it: every server's record, and its block on each drive.
use Rattle.std.specs.Prelude.{ℕ, cond, eqb}
use Rattle.state.specs.declared.Block.{Block}
use Rattle.state.specs.declared.Server.{Server}
use Rattle.state.specs.declared.Sizes.{Sizes}

-- a server's record, and its own block on each drive: no other server writes there
pub record Node : Type 0 where
  pub own : Server
  pub disk : ℕ → Block

-- every server's node
abbrev pub Slot : Type 0
Slot = ℕ → Node

-- how many servers and drives there are
pub record Config : Type 0 where
  pub servers : ℕ
  pub drives : ℕ

abbrev pub config_of : Sizes → Config
config_of z = record { servers = z.servers; drives = z.drives }

-- f with the value a at i
unfoldable pub updated : {A : Type 0} → (ℕ → A) → ℕ → A → ℕ → A
updated f i a j = cond (eqb j i) a (f j)
