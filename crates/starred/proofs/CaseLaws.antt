-- A case that passes its test is as it says.
use Prim.Native.Nat.{ℕ, ◌^◌}
use mathlib.Core.Path.{◌≡◌, refl, ◌∙◌, sym, ap}
use mathlib.Core.Bool.{Bool, true, false, not, ◌&&◌, ◌||◌, beq, true≢false}
use mathlib.Core.List.{List, []}
use native.Mathlib.Omega.{arith}
use lib.Dec.{eqb}
use borrow.Author.Tests.{eqb-true, not-true}
use Rattle.lemmas.proofs.Tests.{by_test}
use Rattle.command.specs.Command.{kind_of, piece_of, hoard_of, cabinet_limits, is_command}
use Rattle.ballot.specs.Ballot.{owned}
use Rattle.quorum.specs.Marks.{stands}
use Rattle.quorum.specs.Sets.{all_below, majority}
use Rattle.quorum.proofs.AllBelow.{all_at}
use Rattle.std.specs.Prelude.{Ok, Err}
use Rattle.checks.specs.declared.Refusal.TheVariants.{SizesUnfit}
use Rattle.checks.specs.Refusals.{refusal_in}
use Rattle.state.specs.declared.Answer.TheVariants.{Done}
use Rattle.state.specs.declared.Sizes.{Sizes}
use Rattle.layout.specs.Places.{sizes_fit, room_length}
use Rattle.layout.proofs.PlaceLaws.{fit_of, of_fit}
use Rattle.room.specs.Open.{opening}
use Rattle.room.proofs.OpenLaws.{Opens, opens_1}
use Rattle.state.specs.Sizes.{sizes}
use Rattle.state.specs.Answers.{code_of, number_of}
use Rattle.starred.specs.Runs.{same_answer}
use Rattle.starred.specs.Cases.{Case, Length, Unopened, Command, NoCommand, Owned, Majority, Run, small_room, offered, IsCommand, IsUnopened, Says, is_unopened, holds}
use Rattle.starred.proofs.RunLaws.{both, same_answer_lem, run_says}

implied : (a b : Bool) → (not a || b) ≡ true → a ≡ true → b ≡ true
implied true b e h = e
implied false b e h = absurd (true≢false (sym h))

alike : (a b : Bool) → beq a b ≡ true → a ≡ b
alike true true e = refl
alike true false e = sym e
alike false true e = e
alike false false e = refl

-- where some drives and slots fit with so many servers, one of each does
fits_least : (n d s : ℕ) → sizes_fit (sizes n d s) ≡ true → sizes_fit (sizes n 1 1) ≡ true
fits_least n d s e =
    let f = fit_of (sizes n d s) e in
    of_fit (sizes n 1 1)
    (record {
      one_server = f.one_server;
      servers = f.servers;
      one_drive = omega arith;
      drives = omega arith;
      one_slot = omega arith;
      slots = omega arith;
    })

unopened
    : (n number d s : ℕ) (limits row : List ℕ) → is_unopened n number ≡ true → IsUnopened (sizes n d s) number limits row
unopened n number d s limits row e =
    let z : Sizes = sizes n d s in
    let least : Sizes = sizes n 1 1 in
    let t = both (not (sizes_fit least)) (eqb (refusal_in (opening least [] [])) number) e in
    let none : sizes_fit least ≡ false = not-true (sizes_fit least) t.0 in
    let unfit : sizes_fit z ≡ false =
    by_test (sizes_fit z) (λ f. absurd (true≢false (sym (fits_least n d s f) ∙ none))) (λ f. f) in
    let o : Opens z limits row (Err SizesUnfit) row = opens_1 z limits row unfit in
    let one : 1 ≡ number =
    ap refusal_in (opens_1 least [] [] none).answers ∙ eqb-true (refusal_in (opening least [] [])) number t.1 in
    record { refused = sym (ap refusal_in o.answers) ∙ one; kept = sym o.leaves }

command : (v k p h : ℕ) → holds (Command v k p h) ≡ true → IsCommand v k p h
unfolding holds
command v k p h e =
    let done = same_answer (offered v) (Ok Done) in
    let t1 = both (is_command cabinet_limits v) (eqb (kind_of v) k && (eqb (piece_of v) p && (eqb (hoard_of v) h && done))) e in
    let t2 = both (eqb (kind_of v) k) (eqb (piece_of v) p && (eqb (hoard_of v) h && done)) t1.1 in
    let t3 = both (eqb (piece_of v) p) (eqb (hoard_of v) h && done) t2.1 in
    let t4 = both (eqb (hoard_of v) h) done t3.1 in
    record {
      command = t1.0;
      kind = eqb-true (kind_of v) k t2.0;
      piece = eqb-true (piece_of v) p t3.0;
      hoard = eqb-true (hoard_of v) h t4.0;
      accepted = same_answer_lem (offered v) (Ok Done) t4.1;
    }

-- one law for all kinds of cases
pub case_says : (c : Case) → holds c ≡ true → Says c
unfolding holds
case_says (Length n d s cells) e =
    let t = both (sizes_fit (sizes n d s)) (eqb (room_length (sizes n d s)) cells) e in
    (t.0, eqb-true (room_length (sizes n d s)) cells t.1)
case_says (Unopened n number) e = λ d s limits row. unopened n number d s limits row e
case_says (Command v k p h) e = command v k p h e
case_says (NoCommand v number) e =
    let word = eqb (code_of (offered v)) 4 in
    let told = eqb (number_of (offered v)) number in
    let t = both (not (is_command cabinet_limits v)) (word && told) e in
    let u = both word told t.1 in
    (not-true (is_command cabinet_limits v) t.0, eqb-true (code_of (offered v)) 4 u.0, eqb-true (number_of (offered v)) number u.1)
case_says (Owned n b p) e =
    let only : ℕ → Bool = λ q. not (owned n q b) || eqb q p in
    let t = both (owned n p b) (all_below n only) e in
    (t.0, λ q h o. eqb-true q p (implied (owned n q b) (eqb q p) (all_at n only t.1 q h) o))
case_says (Majority d counts) e =
    λ m h. alike (majority d (stands m)) (counts m) (all_at (2 ^ d) (λ k. beq (majority d (stands k)) (counts k)) e m h)
case_says (Run n d run) e = run_says (small_room n d) run e
