-- A step on a room: its answer, and every cell afterwards (SPEC, "The ten steps"). A refusal changes no cell.
use Rattle.std.specs.Prelude.{ℕ, zero, suc, List, set}
use Rattle.checks.specs.Checks.{mapped, left_by}
use Rattle.state.specs.declared.Sizes.{Sizes}
use Rattle.state.specs.declared.Step.{Step}
use Rattle.state.specs.Answers.{Answered}
use Rattle.state.specs.Server.{failed, own_block}
use Rattle.layout.specs.Cells.{sizes_of, off_at, put_server, put_block}
use Rattle.room.specs.declared.effect.Effect.{Effect}
use Rattle.room.specs.declared.effect.Effect.TheVariants as effect
use Rattle.room.specs.Judge.{judged, answer_of}

-- server p's records in the first k slots zeroed
unfoldable pub failed_below : Sizes → ℕ → ℕ → List ℕ → List ℕ
failed_below z p zero cells = cells
failed_below z p (suc k) cells = put_server z (failed_below z p k cells) k p failed

-- the cells after an accepted step
unfoldable pub settled : Sizes → List ℕ → Effect → List ℕ
settled z cells (effect.Record s p v a) = put_server z cells s p v
settled z cells (effect.Block s d p v) = put_block z (put_server z cells s p v) s d p (own_block v)
settled z cells (effect.Failure p) = failed_below z p z.slots cells
settled z cells (effect.Off marks) = set cells off_at marks

-- what step answers, and the cells that it leaves
unfoldable pub answered : List ℕ → Step → Answered
answered cells step = mapped answer_of (judged cells step)

unfoldable pub stepped : List ℕ → Step → List ℕ
stepped cells step = left_by (settled (sizes_of cells) cells) cells (judged cells step)
