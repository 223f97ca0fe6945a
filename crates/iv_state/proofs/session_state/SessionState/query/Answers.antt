use Rattle.iv_state.proofs.QueriesTold.{as_answered, refused_told, selected_untold}
use Rattle.iv_state.proofs.session_state.SessionState.query.Goals.{in-Ok, in-Err}
use Rattle.iv_state.proofs.session_state.SessionState.query.Goals as goal

pub returns-clause-told : goal.returns-clause-told
returns-clause-told g c =
    rw (← c.self.view_is)
    (elim c.match-select.branch [
      | in-Ok w ↦ selected_untold _ c.args.plan.now _ c.match-select.result c.args.account.now c.match-select.account w.in-Ok.ensures w.account-is
      | in-Err w ↦ as_answered c.match-select.result w.refused.result c.match-select.account w.refused.new.account c.args.account.now _ w.result-is w.account-is
          (refused_told _ c.args.plan.now w.in-Err.cause w.refused.result c.args.account.now w.refused.new.account w.in-Err.ensures w.refused.ensures.answer w.refused.ensures.told)
    ])
