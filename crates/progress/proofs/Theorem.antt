-- A server on its own gets through: from any room in range, after a Fail and an Offer, following next commits within the
-- bound.
use Prim.Native.Nat.{ℕ, suc, ◌-◌, ◌*◌, ◌<◌, ◌≤◌}
use mathlib.Core.Bool.{true}
use mathlib.Core.List.{List}
use mathlib.Core.Path.{◌≡◌, refl, ◌∙◌, sym, ap, subst}
use native.Mathlib.Omega.{arith}
use native.Mathlib.Nat.{mul_assoc, mul_comm, mul-le-mul_right}
use lib.ListN.{length}
use borrow.Author.Tests.{lt-ltb, eq-eqb}
use Rattle.std.specs.Prelude.{Ok}
use Rattle.command.specs.Command.{is_command}
use Rattle.command.proofs.Laws.{command_nonzero}
use Rattle.quorum.specs.Sets.{majority}
use Rattle.state.specs.declared.Answer.TheVariants.{Done}
use Rattle.state.specs.declared.Server.{Server}
use Rattle.state.specs.declared.Sizes.{Sizes}
use Rattle.state.specs.declared.Step.TheVariants.{Offer, Fail}
use Rattle.state.specs.Server.{with_offer, failed}
use Rattle.state.specs.Sizes.{in_room}
use Rattle.synod.specs.Arguments.{places_fit, command_fits}
use Rattle.synod.specs.Rules.{ruling, rule_of, offer_rule}
use Rattle.synod.proofs.Machine.{after}
use Rattle.layout.specs.Cells.{sizes_of, limits_of, off_of, block_of}
use Rattle.range.specs.Range.{in_range}
use Rattle.range.proofs.Laws.{range_says}
use Rattle.room.specs.Judge.{seen}
use Rattle.room.specs.Step.{answered, stepped}
use Rattle.model.specs.Concerns.{concerns}
use Rattle.step_laws.proofs.ByRule.{answered_by_rule}
use Rattle.step_laws.proofs.StepKeeps.{step_in_range, step_limits}
use Rattle.synod.specs.Rules.{is_on}
use Rattle.progress.specs.Used.{used_drives}
use Rattle.progress.specs.Follow.{fail_then_offer, bound, room_bound}
use Rattle.progress.specs.Promise.{Low, GetsThrough, OnItsOwn}
use Rattle.progress.proofs.Potential.{pairs, remaining, potential, potential_in, missing_most, outbidding, outbidding_most}
use Rattle.progress.proofs.Good.{Matches, in_0, record_becomes, record_matches}
use Rattle.progress.proofs.Setting.{Setting, here}
use Rattle.progress.proofs.Cells.{carried, matches_after}
use Rattle.progress.proofs.Enough.{enough}

-- m · m · n · (n − 1) as the potential has it
products : (m l : ℕ) → m * m * suc l * (suc l - 1) ≡ m * l * (m * suc l)
products m l =
    let less : suc l - 1 ≡ l = omega arith in
    ap (λ (x : ℕ). m * m * suc l * x) less
    ∙ ap (λ (x : ℕ). x * l) (mul_assoc m m (suc l))
    ∙ mul_assoc m (m * suc l) l
    ∙ ap (λ (x : ℕ). m * x) (mul_comm (m * suc l) l)
    ∙ sym (mul_assoc m l (m * suc l))

-- the potential at the start is the bound at most
at_first
    : (z : Sizes) (off p : ℕ) (found : ℕ → ℕ → ℕ) (v : Server) → p < z.servers → v.phase ≡ 0
    → potential z off p found v ≤ bound (length (used_drives z.drives off)) z.servers
unfolding remaining
at_first z off p found v lp e =
    let m : ℕ = length (used_drives z.drives off) in
    let l : ℕ = z.servers - 1 in
    let n : suc l ≡ z.servers = omega arith in
    let scaled : outbidding z off p found v.mbal * pairs z off p ≤ m * l * (m * z.servers) =
    mul-le-mul_right (pairs z off p) (outbidding_most z off p lp found v.mbal l n) in
    let same : m * m * z.servers * (z.servers - 1) ≡ m * l * (m * z.servers) =
    subst (λ (k : ℕ). m * m * k * (k - 1) ≡ m * l * (m * k)) n (products m l) in
    let twice : 2 * m * z.servers ≡ 2 * (m * z.servers) = mul_assoc 2 m z.servers in
    omega (arith, potential_in z off p found v 0 e, missing_most z off p v)

module _ (r : List ℕ) (p : ℕ) (i : in_range r ≡ true) where
  fail_done : p < (sizes_of r).servers → answered r (Fail p) ≡ Ok Done
  unfolding places_fit command_fits rule_of
  fail_done lp = answered_by_rule r (Fail p) failed Done i (lt-ltb p (sizes_of r).servers lp) refl refl

  offer_done
      : (s v : ℕ) → in_room (sizes_of r) p s ≡ true → is_command (limits_of r) v ≡ true → answered r (Offer p s v) ≡ Ok Done
  unfolding places_fit command_fits rule_of offer_rule
  offer_done s v place command = answered_by_rule r (Offer p s v) _ Done i place command refl

module _ (cells : List ℕ) (p s v : ℕ) (i : in_range cells ≡ true) (lp : p < (sizes_of cells).servers)
    (ls : s < (sizes_of cells).slots) (command : is_command (limits_of cells) v ≡ true)
    (most : majority (sizes_of cells).drives (is_on (off_of cells)) ≡ true) (low : Low cells s) where
  -- the cells after the Fail, and after the Offer
  abbrev lost : List ℕ
  lost = stepped cells (Fail p)

  abbrev ready : List ℕ
  ready = fail_then_offer cells p s v

  -- the record then
  abbrev w : Server
  w = with_offer failed v

  -- the mbals before
  found : ℕ → ℕ → ℕ
  found q d = (block_of (sizes_of cells) cells s d q).mbal

  -- what the two steps leave as it is
  record Same (z : Sizes) (off : ℕ) : Type 0 where
    set : Setting z off p s found
    few : potential z off p found w ≤ room_bound cells

  at_start : Same (sizes_of cells) (off_of cells)
  unfolding found
  at_start =
      record {
        set = record { fit = (range_says cells i).row.fit; server = lp; slot = ls; most = most; low = λ q d lq ld. low d q ld lq };
        few = at_first (sizes_of cells) (off_of cells) p found w lp refl;
      }

  i1 : in_range lost ≡ true
  i1 = step_in_range cells (Fail p) i

  same1 : Same (sizes_of lost) (off_of lost)
  same1 = carried cells (Fail p) i tt Same at_start

  matched1 : Matches (sizes_of lost) (off_of lost) p s found (seen (sizes_of lost) lost s) failed
  unfolding found places_fit command_fits concerns rule_of after
  matched1 =
      carried cells (Fail p) i tt (λ z off. Matches z off p s found (seen z lost s) failed)
      (matches_after cells (Fail p) i tt p s found failed Done (lt-ltb p (sizes_of cells).servers lp) refl lp ls refl refl
      (record_becomes (sizes_of cells) (off_of cells) p s found (seen (sizes_of cells) cells s) failed (λ q d lq ld h. refl)))

  command1 : is_command (limits_of lost) v ≡ true
  command1 = ap (λ (limits : List ℕ). is_command limits v) (step_limits cells (Fail p)) ∙ command

  matched2 : Matches (sizes_of ready) (off_of ready) p s found (seen (sizes_of ready) ready s) w
  unfolding places_fit command_fits concerns rule_of offer_rule after
  matched2 =
      carried lost (Offer p s v) i1 tt (λ z off. Matches z off p s found (seen z ready s) w)
      (matches_after lost (Offer p s v) i1 tt p s found w Done (here same1.set) command1 same1.set.server same1.set.slot
      (eq-eqb s s refl) (ap (λ x. ruling (offer_rule x v)) matched1.own)
      (record_matches (sizes_of lost) (off_of lost) p s found (seen (sizes_of lost) lost s) failed w matched1 (λ one. one)))

  same2 : Same (sizes_of ready) (off_of ready)
  same2 = carried lost (Offer p s v) i1 tt Same same1

  through : GetsThrough cells p s v
  through =
      record {
        fails = fail_done cells p i lp;
        offers = offer_done lost p i1 s v (here same1.set) command1;
        commits =
            enough p s found (room_bound cells) ready w (step_in_range lost (Offer p s v) i1)
            (record {
              set = same2.set;
              matched = matched2;
              good =
                  in_0
                  (record { phase = refl; offer = command_nonzero (limits_of cells) v command; mbal = refl; top = omega arith });
              few = same2.few;
            });
      }

pub gets_through : OnItsOwn
gets_through = through
