-- What is printed of what came of a job. Assumes nothing.
use Rattle.std.specs.Prelude.{ℕ, List, ◌++◌, Ok, Err, Result, codes, vec_items}
use Rattle.terms.specs.Refusals.{told_of}
use Rattle.draw.specs.Rows.{text}
use Rattle.job.specs.Replies.{row, told_row}
use Rattle.job.specs.declared.reply.Played.{Played}
use Rattle.job.specs.declared.reply.Stop.{Stop}
use Rattle.job.specs.declared.reply.Stop.TheVariants.{Bad, Held}

abbrev pub written : Result Played Stop → List ℕ
written (Ok p) = row (codes "OK  ") p.makespan p.costs p.most ++ text (vec_items p.heights.values)
written (Err (Bad f)) = told_row (codes "BAD ") (told_of f)
written (Err (Held f)) = told_row (codes "HELD") (told_of f)
