-- What a step makes of a room, in terms of the rule of its kind: the checks of the step's numbers, and then that rule, whose record
-- is stored as the step's view says.
use mathlib.Core.Path.{◌≡◌, refl, ap}
use mathlib.Core.Bool.{true, false}
use Rattle.std.specs.Prelude.{Result}
use Rattle.checks.specs.declared.Refusal.{Refusal}
use Rattle.checks.specs.declared.Refusal.TheVariants.{BeyondRoom, NoCommand}
use Rattle.checks.specs.Checks.{Must, Either, Gives, must, mapped, outcome}
use Rattle.state.specs.declared.Answer.{Answer}
use Rattle.state.specs.declared.Server.{Server}
use Rattle.state.specs.declared.Step.{Step}
use Rattle.state.specs.declared.Step.TheVariants.{Offer, Recall, Rejoin, Bid, Write, Read, Finish, Fail, DriveOff, DriveOn}
use Rattle.state.specs.View.{view_of, view_slot}
use Rattle.synod.specs.Arguments.{places_fit, command_fits}
use Rattle.synod.specs.Rules.{Rule, Ruling, rule_of}
use Rattle.synod.specs.Slot.{config_of}
use Rattle.synod.proofs.Machine.{ruled}
use Rattle.model.specs.Room.{Room, seen_at}
use Rattle.model.specs.Next.{makes, acts, next}
use Rattle.model.proofs.Views.{stored_in}

-- what a rule says, whose record goes into the room by f
abbrev pub into : (Server → Room) → Ruling → Result (Room × Answer) Refusal
into f x = mapped (λ y. (f y.0, y.1)) x

makes_into : (f : Server → Room) (c : Rule) → outcome (makes f c) ≡ into f (outcome c)
unfolding must
makes_into f (Must true n c) = makes_into f c
makes_into f (Must false n c) = refl
makes_into f (Either true x y) = makes_into f x
makes_into f (Either false x y) = makes_into f y
makes_into f (Gives x) = refl

by_rule
    : (r : Room) (st : Step)
    → outcome (makes (stored_in r (view_of st)) (rule_of (config_of r.sizes) r.off (seen_at r (view_slot (view_of st))) st))
    ≡ into (stored_in r (view_of st)) (ruled (config_of r.sizes) r.off (seen_at r (view_slot (view_of st))) st)
by_rule r st = makes_into (stored_in r (view_of st)) (rule_of (config_of r.sizes) r.off (seen_at r (view_slot (view_of st))) st)

-- the step's own part is its rule
acts_ruled
    : (r : Room) (st : Step)
    → outcome (acts r st) ≡ into (stored_in r (view_of st)) (ruled (config_of r.sizes) r.off (seen_at r (view_slot (view_of st))) st)
unfolding acts rule_of
acts_ruled r (Offer p s c) = by_rule r (Offer p s c)
acts_ruled r (Recall p s d) = by_rule r (Recall p s d)
acts_ruled r (Rejoin p s b) = by_rule r (Rejoin p s b)
acts_ruled r (Bid p s b) = by_rule r (Bid p s b)
acts_ruled r (Write p s d) = by_rule r (Write p s d)
acts_ruled r (Read p s d q) = by_rule r (Read p s d q)
acts_ruled r (Finish p s) = by_rule r (Finish p s)
acts_ruled r (Fail p) = refl
acts_ruled r (DriveOff d) = refl
acts_ruled r (DriveOn d) = refl

-- the checks of its numbers, and then its rule
pub next_ruled
    : (r : Room) (st : Step)
    → outcome (next r st)
    ≡ must (places_fit r.sizes st) BeyondRoom
    (must (command_fits r.limits st) NoCommand
    (into (stored_in r (view_of st)) (ruled (config_of r.sizes) r.off (seen_at r (view_slot (view_of st))) st)))
unfolding next
next_ruled r st =
    ap (λ (x : Result (Room × Answer) Refusal). must (places_fit r.sizes st) BeyondRoom (must (command_fits r.limits st) NoCommand x)) (acts_ruled r st)
