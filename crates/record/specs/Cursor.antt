-- A walk over the fields of a record.
use Rattle.std.specs.Prelude.{ℕ, ◌+◌, ◌*◌, ◌/◌, ◌%◌}
use Rattle.record.specs.declared.cursor.Cursor.{Cursor}

abbrev pub at : ℕ → ℕ → Cursor
at place map = record { place = place; map = map }

-- behind a field of this width
abbrev pub behind : ℕ → Cursor → Cursor
behind w c = at (c.place + c.map % 2 * w) (c.map / 2)
