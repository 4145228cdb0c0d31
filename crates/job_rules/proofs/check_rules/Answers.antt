-- The tests in their order: the first rule that is broken says false. Assumes nothing.
use mathlib.Core.Path.{sym, ◌∙◌}
use Rattle.pixels.proofs.Numbers.{err_told, ok_told}
use Rattle.job_rules.proofs.Rules.{rule_sizes, rule_counts, rule_kind, rule_taken, rule_flag}
use Rattle.job_rules.proofs.check_rules.Goals as goal

pub returns-then-is_err : goal.returns-then-is_err
returns-then-is_err c =
    let a = c.args in
    let why = err_told _ (sym c.if-is_err.ensures.value) in
    rule_sizes a.p a.accepted a.taken a.flag why.0 (sym c.check_sizes.ensures ∙ why.1)

pub returns-then-not-counts_fit : goal.returns-then-not-counts_fit
returns-then-not-counts_fit c =
    let a = c.args in
    let z = sym c.check_sizes.ensures ∙ ok_told _ (sym c.if-is_err.ensures.value) in
    rule_counts a.p a.accepted a.taken a.flag z _ c.counts_fit.ensures c.if-not-counts_fit.true-raw

pub returns-then-not-kind_fits : goal.returns-then-not-kind_fits
returns-then-not-kind_fits c =
    let a = c.args in
    let z = sym c.check_sizes.ensures ∙ ok_told _ (sym c.if-is_err.ensures.value) in
    rule_kind a.p a.accepted a.taken a.flag z _ c.counts_fit.ensures c.if-not-counts_fit.false-raw _ c.kind_fits.ensures c.if-not-kind_fits.true-raw

pub returns-then-taken-ne0 : goal.returns-then-taken-ne0
returns-then-taken-ne0 c =
    let a = c.args in
    let z = sym c.check_sizes.ensures ∙ ok_told _ (sym c.if-is_err.ensures.value) in
    rule_taken a.p a.accepted a.taken a.flag z _ c.counts_fit.ensures c.if-not-counts_fit.false-raw _ c.kind_fits.ensures c.if-not-kind_fits.false-raw c.if-taken-ne0.true

pub returns : goal.returns
returns c =
    let a = c.args in
    let z = sym c.check_sizes.ensures ∙ ok_told _ (sym c.if-is_err.ensures.value) in
    rule_flag a.p a.accepted a.taken a.flag z _ c.counts_fit.ensures c.if-not-counts_fit.false-raw _ c.kind_fits.ensures c.if-not-kind_fits.false-raw c.if-taken-ne0.false
