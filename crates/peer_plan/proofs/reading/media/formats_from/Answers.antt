use Rattle.std.proofs.Common.{ap, sym, ◌∙◌}
use Rattle.toml.specs.View.{view}
use Rattle.peer_plan.specs.Reading.{with_format_in}
use Rattle.peer_plan.proofs.FormatLaws.{formats_start, formats_go_on, formats_fail, formats_done}
use Rattle.peer_plan.proofs.reading.media.formats_from.Goals as goal

pub loop-item-init : goal.loop-item-init
loop-item-init c = formats_start c.args.items.now (sym c.is_empty.ensures ∙ c.if-is_empty.false)

pub returns-in_err-formats : goal.returns-in_err-formats
returns-in_err-formats c =
    c.from_residual.ensures ∙ sym (formats_fail c.loop-item.formats c.args.items.now c.loop-item.item-index c.item-item.result _
    c.loop-item-test.true
    (ap (λ v. with_format_in c.loop-item.formats (view v)) (sym c.item-item.is) ∙ sym c.in_err-formats.ensures)
    c.loop-item.invariant)

pub loop-item-preserved : goal.loop-item-preserved
loop-item-preserved c =
    formats_go_on c.loop-item.formats c.in_ok-formats.formats c.args.items.now c.loop-item.item-index c.item-item.result _
    c.loop-item-test.true
    (ap (λ v. with_format_in c.loop-item.formats (view v)) (sym c.item-item.is) ∙ sym c.in_ok-formats.ensures)
    c.loop-item.invariant

pub returns : goal.returns
returns c = sym (formats_done c.loop-item.formats c.args.items.now c.loop-item.item-index _ c.loop-item-test.false
    c.loop-item.invariant)
