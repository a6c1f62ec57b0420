-- The drives that the next step uses (SPEC, "The next step"): the on drives by rising number, up to the first majority.
use Rattle.std.specs.Prelude.{ℕ, Bool, not, ◌&&◌, List, ltb, filter}
use Rattle.std.specs.List.{range_with_len}
use Rattle.quorum.specs.Sets.{majority}
use Rattle.synod.specs.Rules.{is_on}

-- drive e is on and below d
abbrev pub on_below : ℕ → ℕ → ℕ → Bool
on_below off d e = ltb e d && is_on off e

-- drive d is on, and the on drives below it are no majority yet
unfoldable pub is_used : ℕ → ℕ → ℕ → Bool
is_used drives off d = is_on off d && not (majority drives (on_below off d))

-- all of them, by rising number
abbrev pub used_drives : ℕ → ℕ → List ℕ
used_drives drives off = filter (is_used drives off) (range_with_len 0 drives)
