-- `register_c::store_fields` meets its contract: six cells or refused; then each case of what was found is answered, and its
-- fields are stored.
use Prim.Native.Nat.{ℕ}
use mathlib.Core.List.{List}
use mathlib.Core.Path.{◌≡◌, refl, ◌∙◌, sym, ap}
use Rattle.std.proofs.Common.{◌≢◌, rules}
use borrow.Author.Tests.{eq-eqb, ne_eqb}
use lib.Dec.{eqb}
use lib.ListN.{length}
use Rattle.std.specs.Prelude.{Ok, Err}
use Rattle.checks.specs.declared.Refusal.TheVariants.{WrongLength}
use Rattle.checks.specs.Checks.{left_by}
use Rattle.checks.proofs.CheckLaws.{passes, fails}
use Rattle.record.specs.Read.{Reading, Found, reading_of, found_in, found_of}
use Rattle.packing.specs.Packing.{packed_by, packed_number}
use Rattle.register_c.specs.Packing.{packed_reading}
use Rattle.register_c.specs.Calls.{field_cells, fields_reading, fields_read}
use Rattle.register_c.proofs.store_fields.Goals as goal

-- what is answered, and what is left in the cells, where this was found
abbrev answer : Found → ℕ
answer = packed_by (λ x. x.1)

abbrev left : Found → List ℕ → List ℕ
left f cells = left_by (λ x. field_cells x.0) cells f

same_answer : (r : Reading) → answer (found_in r) ≡ packed_reading r
same_answer (Ok (step, used)) = refl
same_answer (Err n) = refl

same_cells : (r : Reading) (cells : List ℕ) → left (found_in r) cells ≡ fields_read r cells
same_cells (Ok (step, used)) cells = refl
same_cells (Err n) cells = refl

says : (bytes cells : List ℕ) (f : Found) → length cells ≡ 6 → f ≡ found_of bytes
    → (answer f ≡ packed_reading (fields_reading bytes cells)) × (left f cells ≡ fields_read (fields_reading bytes cells) cells)
unfolding reading_of found_of
says bytes cells f six told =
    let r = reading_of bytes in
    let all = sym (passes (eqb (length cells) 6) WrongLength r (eq-eqb _ _ six)) in (
      ap answer told ∙ same_answer r ∙ ap packed_reading all,
      ap (λ (x : Found). left x cells) told ∙ same_cells r cells ∙ ap (λ (x : Reading). fields_read x cells) all,
    )

pub returns-in_err-cells : goal.returns-in_err-cells
returns-in_err-cells c =
    let cells = c.args.fields.now in
    let other : length cells ≢ 6 = search rules in
    let refused : c.from_residual.result ≡ Err WrongLength = search rules in
    let stop = sym (fails (eqb (length cells) 6) WrongLength _ (ne_eqb _ _ other)) in
    record { answer = ap packed_number refused ∙ ap packed_reading stop; cells = ap (λ (r : Reading). fields_read r cells) stop }

pub returns-in_err-f : goal.returns-in_err-f
returns-in_err-f c =
    let refusal = c.in_err-f.field-0.0 in
    let refused : c.from_residual-in_err-f.result ≡ Err refusal = search rules in
    let six : length c.args.fields.now ≡ 6 = search rules in
    let same : c.in_ok-cells.cells.now ≡ c.args.fields.now = search rules in
    let told = says c.args.bytes.now c.args.fields.now (Err refusal) six c.in_err-f.ensures in
    record { answer = ap packed_number refused ∙ told.0; cells = same ∙ told.1 }

pub returns : goal.returns
returns c =
    let six : length c.args.fields.now ≡ 6 = search rules in
    let told = says c.args.bytes.now c.args.fields.now (Ok (c.in_ok-f.f, c.in_ok-f.used)) six c.in_ok-f.ensures in
    record { answer = told.0; cells = cc (told.1) }
