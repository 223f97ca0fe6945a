use Rattle.std.specs.Prelude.{drop}
use Rattle.std.proofs.Common.{sym, ◌∙◌, ap}
use Rattle.iv_lex.specs.declared.lexer.Lexed.{Lexed}
use Rattle.iv_parse.specs.Script.{first_place}
use Rattle.iv_parse.proofs.Runs.{script_is, fault_has, word_found, token_found, before_found, cut_found}
use Rattle.iv_parse.proofs.parser.script.Goals as goal

pub returns-clause-script : goal.returns-clause-script
returns-clause-script c =
    let ts = c.as_slice.result.now in
    let end = c.in_ok-statements.end in
    let lexed = c.in_ok-lexed.lexed in
    script_is c.args.text.now ts c.in_ok-statements.statements end.place end.word _ c.in_ok-statements.ensures
    (c.as_slice.ensures ∙ ap (λ (l : Lexed). l.tokens) c.in_ok-lexed.ensures)
    (c.fault_of-fault.ensures.at ∙ (ap (λ z. first_place (drop end.place z) lexed.fault) (c.as_slice-2.ensures ∙ sym c.as_slice.ensures)
    ∙ ap (λ (l : Lexed). first_place (drop end.place ts) l.fault) c.in_ok-lexed.ensures))

pub returns-clause-word : goal.returns-clause-word
returns-clause-word c =
    let ts = c.as_slice.result.now in
    let end = c.in_ok-statements.end in
    let lexed = c.in_ok-lexed.lexed in
    fault_has c.args.text.now ts c.in_ok-statements.statements end.place end.word c.fault_of-fault.result c.in_ok-statements.ensures
    (c.as_slice.ensures ∙ ap (λ (l : Lexed). l.tokens) c.in_ok-lexed.ensures)
    (c.fault_of-fault.ensures.at ∙ (ap (λ z. first_place (drop end.place z) lexed.fault) (c.as_slice-2.ensures ∙ sym c.as_slice.ensures)
    ∙ ap (λ (l : Lexed). first_place (drop end.place ts) l.fault) c.in_ok-lexed.ensures))
    (word_found c.args.text.now ts c.as_slice-2.result.now lexed end.word c.fault_of-fault.result (c.as_slice-2.ensures ∙ sym c.as_slice.ensures) c.in_ok-lexed.ensures c.fault_of-fault.ensures.word)
    (token_found ts c.as_slice-2.result.now end.word c.fault_of-fault.result (c.as_slice-2.ensures ∙ sym c.as_slice.ensures) c.fault_of-fault.ensures.token)
    (before_found ts c.as_slice-2.result.now end.place end.word c.fault_of-fault.result (c.as_slice-2.ensures ∙ sym c.as_slice.ensures) c.fault_of-fault.ensures.before)
    (cut_found c.args.text.now lexed c.fault_of-fault.result c.in_ok-lexed.ensures c.fault_of-fault.ensures.cut)
