-- By whether the run is text, parses, and is what its number is written as.
use Rattle.std.proofs.Common.{rules, sym, ◌∙◌}
use Rattle.text.proofs.Decimal.{value_told, error_told, number_bytes, number_unparsed, number_otherwise, number_so}
use Rattle.text.proofs.number.number_of.Goals as goal

pub returns-in_err-text-clause-none : goal.returns-in_err-text-clause-none
returns-in_err-text-clause-none c =
    rw c.from_residual.ensures (number_bytes c.args.run.now (error_told _ _ c.from_utf8.result (sym c.ok.ensures.value ∙ c.in_err-text.was) c.from_utf8.ensures.cases (λ e q. q.0)))

pub returns-in_err-number-clause-none : goal.returns-in_err-number-clause-none
returns-in_err-number-clause-none c =
    let t = value_told _ _ c.from_utf8.result c.in_ok-text.text (sym c.ok.ensures.value ∙ c.in_ok-text.was) c.from_utf8.ensures.cases in
    rw c.from_residual-in_err-number.ensures (number_unparsed c.args.run.now _ t.0 c.parse.result (search rules) (sym c.ok-2.ensures.value ∙ c.in_err-number.was))

pub returns-then-ne-clause-none : goal.returns-then-ne-clause-none
returns-then-ne-clause-none c =
    let t = value_told _ _ c.from_utf8.result c.in_ok-text.text (sym c.ok.ensures.value ∙ c.in_ok-text.was) c.from_utf8.ensures.cases in
    number_otherwise c.args.run.now _ t.0 c.parse.result (search rules) c.in_ok-number.number (sym c.ok-2.ensures.value ∙ c.in_ok-number.was) (λ e. search rules)

pub returns-clause-found : goal.returns-clause-found
returns-clause-found c = number_so _ _ (search rules) (search rules)
