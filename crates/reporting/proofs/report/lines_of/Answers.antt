use Rattle.std.proofs.Common.{vec_items, sym, ap, ◌∙◌}
use Rattle.reporting.proofs.Reports.{accepted_lines, refused_lines, after_none}
use Rattle.reporting.proofs.report.lines_of.Goals as goal
use Rattle.reporting.proofs.report.lines_of.Goals.{in-Ok+in_ok-add_stages-in-Ok, in-Err+in_ok-push-in-Err}

pub add_stages-requires : goal.add_stages-requires
add_stages-requires c =
    let read = c.in-Ok.ensures in
    (read.law.accepted c.args.text.now _ (sym read.answer)).request.lawful.shape

pub returns : goal.returns
returns c =
    let none = c.new-lines.ensures.items in
    elim c.match-request.branch [
      | in-Ok+in_ok-add_stages-in-Ok w ↦
          ap vec_items w.lines-is ∙ after_none _ _ _ w.in_ok-add_stages-in-Ok.ensures none
          ∙ sym (accepted_lines c.args.text.now _ w.in-Ok.request c.request.ensures.answer w.in-Ok.is)
      | in-Err+in_ok-push-in-Err w ↦
          ap vec_items w.lines-is ∙ after_none _ _ _ w.in_ok-push-in-Err.ensures.items none
          ∙ sym (refused_lines c.args.text.now _ w.in-Err.fault c.request.ensures.answer w.in-Err.is)
    ]
