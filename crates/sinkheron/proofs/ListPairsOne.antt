-- list_pairs' promise leaves one outcome; and the list is no longer than the slice.
use mathlib.Core.Path.{refl}
use mathlib.Core.List.{List, map}
use Prim.Native.Nat.{ℕ, ◌≤◌}
use lib.ListN.{length}
use borrow.Author.Tests.{ltb-false}
use Rattle.ptacl.specs.Pairs.{packed}
use Rattle.ptacl.proofs.Pairs.{pairs_unique}
use Rattle.files.specs.Encoding.{Bytes}
use Rattle.sinkheron.specs.Answer.{success, OneOutcome}
use Rattle.sinkheron.specs.Ways.{Writes, holding, the, passes, gives}
use Rattle.sinkheron.specs.ListPairs.{answer_of, Lists}
use Rattle.sinkheron.proofs.Ranges.{list_pairs_ranged}
use Rattle.sinkheron.proofs.OneOutcome.{One, one_outcome, policy_one, the_one, refused_if_one, gives_one}

-- whatever the bytes, one answer
pub list_pairs_same : {policy before : List ℕ} → One (Lists policy before)
list_pairs_same = policy_one (λ p. the_one (λ t u h k. pairs_unique h k) (λ ps. refused_if_one gives_one))

pub list_pairs_one : {policy before : List ℕ} → Bytes policy → OneOutcome answer_of (Lists policy before)
list_pairs_one b = one_outcome (λ k. k) (λ k. k) (λ k. refl) list_pairs_same (list_pairs_ranged b)

-- the list has no more pairs than the slice that was lent for it
pub listed_fits : {policy before after : List ℕ} {k : ℕ} → Lists policy before (success k) after → k ≤ length before
listed_fits {before = before} (holding p (the {t = ps} h w)) = written w
  where
    written : {k : ℕ} {after : List ℕ} → Writes (map packed ps) before (success k) after → k ≤ length before
    written (passes l gives) = ltb-false (length before) (length (map packed ps)) l
