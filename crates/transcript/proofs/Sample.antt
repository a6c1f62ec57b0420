-- 01's sample of a run, line by line, and the longest line.
use mathlib.Core.Path.{◌≡◌, refl}
use mathlib.Core.List.{◌++◌}
use lib.ListN.{length}
use lib.Chars.{codes}
use Rattle.std.specs.Prelude.{Ok, Err}
use Rattle.checks.specs.declared.Refusal.TheVariants.{NoMajority}
use Rattle.state.specs.declared.Answer.TheVariants.{Done, Chosen, Committed}
use Rattle.transcript.specs.Text.{digits_in, digits}
use Rattle.transcript.specs.Lines.{step_line, server_line, open_line, line_max}

pub sample
    : step_line 0 (Ok Done)
    ++ step_line 1 (Err NoMajority)
    ++ step_line 2 (Ok Done)
    ++ step_line 3 (Ok Done)
    ++ step_line 4 (Ok Done)
    ++ step_line 5 (Ok (Chosen 66825))
    ++ step_line 6 (Ok Done)
    ++ step_line 7 (Ok (Committed 66825))
    ++ server_line 0 1 0
    ≡ codes "0 done 0\n1 refused 10\n2 done 0\n3 done 0\n4 done 0\n5 chosen 66825\n6 done 0\n7 committed 66825\nserver 0 taken 1 skipped 0\n"
unfolding digits_in digits step_line server_line
sample = refl

pub open_sample : open_line 14 ≡ codes "open refused 14\n"
unfolding digits_in digits open_line
open_sample = refl

-- a server's line can be as long as line_max says
pub longest : length (server_line 4294967295 4294967295 4294967295) ≡ line_max
unfolding digits_in digits server_line
longest = refl
