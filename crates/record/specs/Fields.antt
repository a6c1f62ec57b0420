-- A step's kind and fields as numbers, and which kind has which field (SPEC, "The ten steps", "Step records").
use Rattle.std.specs.Prelude.{ℕ, ◌+◌, ◌<◌, ◌^◌, cond, List, [], ◌∷◌, eqb, get_or}
use Rattle.state.specs.declared.Step.TheVariants.{Offer, Recall, Rejoin, Bid, Write, Read, Finish, Fail, DriveOff, DriveOn}
use Rattle.state.specs.declared.Step.{Step}
use Rattle.record.specs.declared.fields.Fields.{Fields}

-- the bits of the map: server, slot, drive, other, number
abbrev pub server : ℕ
server = 1

abbrev pub slot : ℕ
slot = 2

abbrev pub drive : ℕ
drive = 4

abbrev pub other : ℕ
other = 8

abbrev pub number : ℕ
number = 16

-- the fields that each kind has, by the kind's number; 0 is no kind
abbrev pub field_table : List ℕ
field_table =
    0
    ∷ (server + slot + number)
    ∷ (server + slot + drive)
    ∷ (server + slot + number)
    ∷ (server + slot + number)
    ∷ (server + slot + drive)
    ∷ (server + slot + drive + other)
    ∷ (server + slot)
    ∷ server
    ∷ drive
    ∷ drive
    ∷ []

-- the map of all the fields that a kind has
unfoldable pub mask_of : ℕ → ℕ
mask_of kind = get_or field_table kind 0

abbrev pub fields : ℕ → ℕ → ℕ → ℕ → ℕ → ℕ → Fields
fields kind p s d q n = record { kind = kind; server = p; slot = s; drive = d; other = q; number = n }

-- a field that the kind lacks is 0
abbrev pub fields_of : Step → Fields
fields_of (Offer p s v) = fields 1 p s 0 0 v
fields_of (Recall p s d) = fields 2 p s d 0 0
fields_of (Rejoin p s b) = fields 3 p s 0 0 b
fields_of (Bid p s b) = fields 4 p s 0 0 b
fields_of (Write p s d) = fields 5 p s d 0 0
fields_of (Read p s d q) = fields 6 p s d q 0
fields_of (Finish p s) = fields 7 p s 0 0 0
fields_of (Fail p) = fields 8 p 0 0 0 0
fields_of (DriveOff d) = fields 9 0 0 d 0 0
fields_of (DriveOn d) = fields 10 0 0 d 0 0

-- the step of a kind from 1 to 10 with these fields
unfoldable pub step_of : Fields → Step
step_of f =
    cond (eqb f.kind 1) (Offer f.server f.slot f.number)
    (cond (eqb f.kind 2) (Recall f.server f.slot f.drive)
    (cond (eqb f.kind 3) (Rejoin f.server f.slot f.number)
    (cond (eqb f.kind 4) (Bid f.server f.slot f.number)
    (cond (eqb f.kind 5) (Write f.server f.slot f.drive)
    (cond (eqb f.kind 6) (Read f.server f.slot f.drive f.other)
    (cond (eqb f.kind 7) (Finish f.server f.slot)
    (cond (eqb f.kind 8) (Fail f.server)
    (cond (eqb f.kind 9) (DriveOff f.drive)
    (DriveOn f.drive)))))))))

-- the five fields in the order of their bits
abbrev pub values_of : Fields → List ℕ
values_of f = f.server ∷ f.slot ∷ f.drive ∷ f.other ∷ f.number ∷ []

-- the kind with five fields in the order of their bits
abbrev pub with_values : ℕ → List ℕ → Fields
with_values kind vs = fields kind (get_or vs 0 0) (get_or vs 1 0) (get_or vs 2 0) (get_or vs 3 0) (get_or vs 4 0)

-- the widths of a step's numbers
pub record StepFits (step : Step) : Type 0 where
  pub server : (fields_of step).server < 256
  pub slot : (fields_of step).slot < 256
  pub drive : (fields_of step).drive < 256
  pub other : (fields_of step).other < 256
  pub number : (fields_of step).number < 2 ^ 32
