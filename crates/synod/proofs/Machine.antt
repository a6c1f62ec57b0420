-- One slot as a machine: what a step makes of it. The slot that a step names is not looked at: the caller decides which
-- steps concern this slot.
use Prim.Native.Nat.{ℕ, ◌≤◌}
use Rattle.state.specs.declared.Server.{Server}
use Rattle.state.specs.declared.Step.{Step}
use Rattle.state.specs.Block.{blank}
use Rattle.state.specs.Server.{failed, own_block}
use Rattle.state.specs.View.{Deed, Brings, Stores, Alone, View, AtSlot, AtServer, AtDrive, view_of}
use Rattle.std.specs.Prelude.{Ok, Err}
use Rattle.synod.specs.Rules.{Ruling, ruling, rule_of}
use Rattle.synod.specs.Slot.{Node, Slot, Config, updated}

-- the servers and drives of a room are few
pub record Fits (c : Config) : Type 0 where
  pub servers : c.servers ≤ 4
  pub drives : c.drives ≤ 7

abbrev pub blank_node : Node
blank_node = record { own = failed; disk = λ d. blank }

-- a slot of a room just opened
abbrev pub blank_slot : Slot
blank_slot = λ p. blank_node

-- what the rule of the step's kind says
abbrev pub ruled : Config → ℕ → Slot → Step → Ruling
ruled c off σ st = ruling (rule_of c off σ st)

-- the node with the record v; its blocks stay
abbrev pub with_record : Node → Server → Node
with_record n v = record { own = v; disk = n.disk }

-- the node with the record v, its block on drive d become the own block
abbrev pub with_block : Node → ℕ → Server → Node
with_block n d v = record { own = v; disk = updated n.disk d (own_block v) }

-- the node with the record v, after such a deed
abbrev pub node_after : Node → Deed → Server → Node
node_after n (Brings c) v = with_record n v
node_after n (Stores d) v = with_block n d v
node_after n Alone v = with_record n v

abbrev pub slot_after : Slot → View → Server → Slot
slot_after σ (AtSlot p s k) v = updated σ p (node_after (σ p) k v)
slot_after σ (AtServer p) v = updated σ p (with_record (σ p) v)
slot_after σ (AtDrive d on) v = σ

-- what the step makes of the slot, given what its rule says
abbrev pub after_view : Slot → View → Ruling → Slot
after_view σ w (Err n) = σ
after_view σ w (Ok (v, a)) = slot_after σ w v

unfoldable pub after : Slot → Step → Ruling → Slot
after σ st x = after_view σ (view_of st) x
