-- A struck number is never used again: by one history every catalogue is made of the first commands of one list, and no
-- command brings back what was struck.
use Prim.Native.Nat.{ℕ, ◌+◌, ◌-◌, ◌≤◌}
use mathlib.Core.Path.{◌≡◌, ◌∙◌, sym, ap}
use mathlib.Core.Bool.{true}
use mathlib.Core.List.{List}
use native.Mathlib.Omega.{arith}
use lib.ListN.{get_or, take, drop}
use lib.Seq.{take-add}
use Rattle.checks.specs.Checks.{accepted}
use Rattle.state.specs.declared.Sizes.{Sizes}
use Rattle.room.specs.Open.{opening, opened}
use Rattle.history.specs.Calls.{Call}
use Rattle.history.specs.Run.{history, Always}
use Rattle.history.proofs.Always.{always_map}
use Rattle.catalogue.specs.Fold.{Entries, folded, start}
use Rattle.catalogue.proofs.FoldLaws.{fold_append}
use Rattle.catalogue.proofs.StruckLaws.{struck_stays}
use Rattle.register.specs.OneHistory.{commands_of, AllShow}
use Rattle.register.specs.NeverAgain.{StaysStruck, NeverAgain}
use Rattle.register.proofs.Theorem.{one_history}

-- the result of the first k commands of a list goes on from that of its first j
first_more
    : (vs : List ℕ) (j k : ℕ) → j ≤ k → folded start (take k vs) ≡ folded (folded start (take j vs)) (take (k - j) (drop j vs))
first_more vs j k h =
    let n : k ≡ j + (k - j) = omega arith in
    ap (λ (i : ℕ). folded start (take i vs)) n
    ∙ ap (folded start) (take-add j (k - j) vs)
    ∙ fold_append start (take j vs) (take (k - j) (drop j vs))

-- in two rooms whose catalogues show one list of commands
stays : (z : Sizes) (commands room other : List ℕ) → AllShow z commands room → AllShow z commands other → StaysStruck z room other
stays z commands room other a b p q h l out lent exact whole less piece e =
    let s = a p h out exact in
    let t = b q l lent whole in
    let more : s.k ≤ t.k = omega (arith, s.taken, t.taken) in
    let cell : List ℕ → ℕ = λ cells. get_or cells piece 0 in
    let first = folded start (take s.k commands) in
    ap cell t.cells
    ∙ ap (λ (n : Entries). cell n.cells) (first_more commands s.k t.k more)
    ∙ struck_stays first (take (t.k - s.k) (drop s.k commands)) piece (ap cell (sym s.cells) ∙ e)

-- from a room just opened, for every list of calls
pub never_again
    : (z : Sizes) (limits row : List ℕ) → accepted (opening z limits row) ≡ true → (calls : List Call)
    → NeverAgain z (opened z limits row) calls
never_again z limits row e calls =
    let cells = opened z limits row in
    let Show : List ℕ → Type 0 = AllShow z (commands_of z (history cells calls)) in
    let shown = (one_history z limits row e calls).catalogues in
    always_map Show (λ room. Always (StaysStruck z room) cells calls)
    (λ room a. always_map Show (StaysStruck z room) (λ other. stays z _ room other a) cells calls shown)
    cells calls shown
