-- The numbers of the refusals that a step can get (SPEC, "Who can bring which number"): the table, which is said here by
-- itself.
use Rattle.std.specs.Prelude.{ℕ, List, [], ◌∷◌}
use Rattle.state.specs.declared.Step.{Step}
use Rattle.state.specs.declared.Step.TheVariants.{Offer, Recall, Rejoin, Bid, Write, Read, Finish, Fail, DriveOff, DriveOn}

-- the numbers of each kind's own rule
unfoldable pub own_numbers : Step → List ℕ
own_numbers (Offer p s v) = []
own_numbers (Recall p s d) = 7 ∷ 8 ∷ []
own_numbers (Rejoin p s b) = 6 ∷ 7 ∷ 10 ∷ 11 ∷ []
own_numbers (Bid p s b) = 6 ∷ 7 ∷ 11 ∷ []
own_numbers (Write p s d) = 7 ∷ 8 ∷ []
own_numbers (Read p s d q) = 7 ∷ 8 ∷ 9 ∷ 13 ∷ []
own_numbers (Finish p s) = 7 ∷ 10 ∷ 12 ∷ []
own_numbers (Fail p) = []
own_numbers (DriveOff d) = []
own_numbers (DriveOn d) = []

-- the numbers of a step: the room, the places, the command (Offer alone brings one), then the rule's own
abbrev pub numbers_for : Step → List ℕ
numbers_for st = 3 ∷ 4 ∷ 5 ∷ own_numbers st
