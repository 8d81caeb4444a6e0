-- None of the 64 subsets is an exposure at a pair before i.
use Rattle.search.proofs.Hits.{QuietTo}
use Rattle.search.proofs.Word.is_quiet.Given as goal

abbrev pub invariant-loop-i : goal.invariant-loop-i
invariant-loop-i l = QuietTo l.self.table.now.words.now l.k l.self.w l.i
