-- Steps and their fields: the ten kinds are gone through here, and nowhere else.
use Prim.Native.Nat.{ℕ, suc, ◌≤◌}
use mathlib.Core.Bool.{true, false}
use mathlib.Core.List.{List, ◌∷◌}
use mathlib.Core.Path.{◌≡◌, refl, ◌∙◌, sym, ap, subst}
use native.Mathlib.Omega.{arith}
use borrow.Author.Tests.{ltb-false, eqb-true, eqb-false, ne_eqb}
use lib.Dec.{eqb, ltb, lit≤}
use Rattle.lemmas.proofs.Tests.{by_test, clash, neither_left, neither_right}
use Rattle.state.specs.declared.Step.TheVariants.{Offer, Recall, Rejoin, Bid, Write, Read, Finish, Fail, DriveOff, DriveOn}
use Rattle.state.specs.declared.Step.{Step}
use Rattle.record.specs.Fields.{mask_of, fields_of, step_of, values_of, with_values, StepFits}
use Rattle.record.specs.Kinds.{kind_number}
use Rattle.record.specs.declared.kinds.Kind.{Kind}
use Rattle.record.specs.declared.kinds.Kind.TheVariants as kind
use Rattle.record.specs.Map.{widths, map_of, unknown, fields_length, record_length}
use Rattle.record.specs.Write.{bytes_of, record_of_fields, record_of}
use Rattle.record.specs.declared.fields.Fields.{Fields}
use Rattle.record.proofs.Marks.{Keeps, Fit, kept, kept_same, kept_map, kept_bytes}

pub step_fields : (step : Step) → step_of (fields_of step) ≡ step
unfolding step_of
step_fields (Offer p s v) = refl
step_fields (Recall p s d) = refl
step_fields (Rejoin p s b) = refl
step_fields (Bid p s b) = refl
step_fields (Write p s d) = refl
step_fields (Read p s d q) = refl
step_fields (Finish p s) = refl
step_fields (Fail p) = refl
step_fields (DriveOff d) = refl
step_fields (DriveOn d) = refl

-- a kind that is none of the ten counts as the last of them
pub step_unknown : (f : Fields) → unknown f.kind ≡ true → step_of (with_values 10 (values_of f)) ≡ step_of f
unfolding step_of
step_unknown f h =
    let none : (n : ℕ) → unknown n ≡ false → eqb f.kind n ≡ false =
    λ n known. ne_eqb f.kind n (λ same. clash (unknown n) (ap unknown (sym same) ∙ h) known) in
    simp (none 1 refl, none 2 refl, none 3 refl, none 4 refl, none 5 refl, none 6 refl, none 7 refl, none 8 refl, none 9 refl)

pub kind_known : (step : Step) → unknown (fields_of step).kind ≡ false
kind_known (Offer p s v) = refl
kind_known (Recall p s d) = refl
kind_known (Rejoin p s b) = refl
kind_known (Bid p s b) = refl
kind_known (Write p s d) = refl
kind_known (Read p s d q) = refl
kind_known (Finish p s) = refl
kind_known (Fail p) = refl
kind_known (DriveOff d) = refl
kind_known (DriveOn d) = refl

pub number_known : (kind : Kind) → unknown (kind_number kind) ≡ false
number_known kind.Offer = refl
number_known kind.Recall = refl
number_known kind.Rejoin = refl
number_known kind.Bid = refl
number_known kind.Write = refl
number_known kind.Read = refl
number_known kind.Finish = refl
number_known kind.Fail = refl
number_known kind.DriveOff = refl
number_known kind.DriveOn = refl

pub step_keeps : (step : Step) → Keeps (mask_of (fields_of step).kind) (values_of (fields_of step))
unfolding mask_of
step_keeps (Offer p s v) = omega arith
step_keeps (Recall p s d) = omega arith
step_keeps (Rejoin p s b) = omega arith
step_keeps (Bid p s b) = omega arith
step_keeps (Write p s d) = omega arith
step_keeps (Read p s d q) = omega arith
step_keeps (Finish p s) = omega arith
step_keeps (Fail p) = omega arith
step_keeps (DriveOff d) = omega arith
step_keeps (DriveOn d) = omega arith

pub step_fit : {step : Step} → StepFits step → Fit widths (values_of (fields_of step))
step_fit h = (h.server, (h.slot, (h.drive, (h.other, (h.number, tt)))))

up_to : (P : ℕ → Type 0) (k n : ℕ) → P (suc n) → (k ≤ n → P k) → k ≤ suc n → P k
up_to P k n here below h =
    by_test (eqb k (suc n))
    (λ e. subst P (sym (eqb-true k (suc n) e)) here)
    (λ e. let other = eqb-false k (suc n) e in below (omega arith))

-- what holds of each kind from 1 to 10 holds of every known kind
each_kind : (P : ℕ → Type 0) → P 1 → P 2 → P 3 → P 4 → P 5 → P 6 → P 7 → P 8 → P 9 → P 10
    → (kind : ℕ) → unknown kind ≡ false → P kind
each_kind P a b c d e f g h i j k known =
    let some = eqb-false k 0 (neither_left (eqb k 0) (ltb 10 k) known) in
    let most = ltb-false 10 k (neither_right (eqb k 0) (ltb 10 k) known) in
    let none : k ≤ 0 → P k = λ z. absurd (omega arith) in
    let to-5 = up_to P k 4 e (up_to P k 3 d (up_to P k 2 c (up_to P k 1 b (up_to P k 0 a none)))) in
    up_to P k 9 j (up_to P k 8 i (up_to P k 7 h (up_to P k 6 g (up_to P k 5 f to-5)))) most

-- no kind has more than eight bytes
pub kind_length : (kind : ℕ) → unknown kind ≡ false → record_length (mask_of kind) ≤ 8
unfolding mask_of record_length fields_length
kind_length =
    each_kind (λ (k : ℕ). record_length (mask_of k) ≤ 8)
    (lit≤ tt)
    (lit≤ tt)
    (lit≤ tt)
    (lit≤ tt)
    (lit≤ tt)
    (lit≤ tt)
    (lit≤ tt)
    (lit≤ tt)
    (lit≤ tt)
    (lit≤ tt)

-- the step of a known kind with any fields has the fields that its kind has, and 0 for each other
fields_kept : (f : Fields) → unknown f.kind ≡ false
    → fields_of (step_of f) ≡ with_values f.kind (kept (mask_of f.kind) (values_of f))
unfolding mask_of step_of
fields_kept f =
    each_kind
    (λ (k : ℕ). fields_of (step_of (with_values k (values_of f))) ≡ with_values k (kept (mask_of k) (values_of f)))
    refl
    refl
    refl
    refl
    refl
    refl
    refl
    refl
    refl
    refl
    f.kind

-- so a known kind with 0 in every field that it lacks is a step's
pub fields_step : (f : Fields) → unknown f.kind ≡ false → Keeps (mask_of f.kind) (values_of f) → fields_of (step_of f) ≡ f
fields_step f known keeps =
    fields_kept f known ∙ ap (with_values f.kind) (kept_same (mask_of f.kind) (values_of f) keeps)

-- and a field that a known kind lacks is not in its record
pub fields_record : (f : Fields) → unknown f.kind ≡ false → record_of (step_of f) ≡ record_of_fields f
unfolding record_of record_of_fields bytes_of
fields_record f known =
    let mask = mask_of f.kind in
    let vs = values_of f in
    ap record_of_fields (fields_kept f known)
    ∙ ap (λ (m : ℕ). bytes_of m f.kind (kept mask vs)) (kept_map mask vs)
    ∙ ap (λ (l : List ℕ). map_of mask vs ∷ f.kind ∷ l) (kept_bytes widths vs mask)
