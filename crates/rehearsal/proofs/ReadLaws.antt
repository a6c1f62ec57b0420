-- A read into the part of a buffer behind what is filled, and what was read of an input.
use Rattle.std.proofs.Common.{◌≡◌, sym, ap, subst, ◌∙◌, ℕ, ◌+◌, ◌≤◌, List, [], ◌++◌, length, take, drop, drop_at, length-take-le, le_refl, arith}
use Rattle.std.proofs.lemmas.Slice.{take-put_mid_below}
use lib.Seq.{take-add, take-append-le}
use borrow.Rule.Slice.PartMut.{put_mid, post_of}
use Rattle.std.specs.declared.option.Option.{Option}
use Rattle.std.specs.Prelude.{Result, Ok, Err}
use Rattle.std.specs.Result.{result_unwrap_or}
use Rattle.std.specs.Io.{ReadsAtMost}
use Rattle.std.specs.Io.KnownBytes.{ReadConsumes, Consumes}
use Rattle.std.proofs.KnownBytes.{Consumes-nil, Consumes-trans, Consumes-kept}

-- a read that fails takes nothing
taken
    : {E : Type 0} (b c : Option (List ℕ)) (r : Result ℕ E) (part : List ℕ) {n : ℕ} → n ≡ result_unwrap_or r 0 → ReadConsumes b c r part
    → Consumes b c (take n part)
taken b c (Ok k) part e read = subst (λ (m : ℕ). Consumes b c (take m part)) (sym e) read.0
taken b c (Err x) part e kept =
    subst (λ (m : ℕ). Consumes b c (take m part)) (sym e) (Consumes-kept b b c [] (Consumes-nil b) kept)

pub within : {E : Type 0} (r : Result ℕ E) (part : List ℕ) {n : ℕ} → n ≡ result_unwrap_or r 0 → ReadsAtMost r part → n ≤ length part
within (Ok k) part e bound = omega (arith, bound.0)
within (Err x) part e bound = omega arith

-- what a read gave stands behind what was read before
pub filled
    : {E : Type 0} (a b c : Option (List ℕ)) (r : Result ℕ E) (buffer part : List ℕ) (room : ℕ) {n at : ℕ} → n ≡ result_unwrap_or r 0
    → ReadsAtMost r part → ReadConsumes b c r part → at ≤ length buffer → Consumes a b (take at buffer)
    → Consumes a c (take (at + n) (put_mid at room buffer part))
filled a b c r buffer part room {n} {at} e bound read h before =
    let front = take at buffer in
    let after = post_of at room buffer in
    let whole = put_mid at room buffer part in
    let parts : take (at + n) whole ≡ front ++ take n part =
    take-add at n whole
    ∙ ap (λ (l : List ℕ). l ++ take n (drop at whole)) (take-put_mid_below at room buffer part at (le_refl at) h)
    ∙ ap (λ (l : List ℕ). front ++ take n l) (drop_at front (part ++ after) at (length-take-le at buffer h))
    ∙ ap (λ (l : List ℕ). front ++ l) (take-append-le n part after (within r part e bound)) in
    subst (Consumes a c) (sym parts) (Consumes-trans a b c front (take n part) before (taken b c r part e read))
