use Rattle.std.proofs.Common.{sym, arith}
use Rattle.std.proofs.lemmas.Grind.{common_steps}
use Rattle.iv_lex.proofs.Scanning.{ends_zero, ends_gap, ends_fault, reached_more, whole_drop}
use Rattle.iv_lex.proofs.lexer.scan.Goals as goal

pub returns-then-rest-gap : goal.returns-then-rest-gap
returns-then-rest-gap c =
    ends_gap c.loop-most.tokens c.loop-most.most c.loop-most.at c.gap_length-gap.result c.args.text.now
    c.loop-most.invariant.reached (simp whole_drop at c.gap_length-gap.ensures.gap) (simp whole_drop at c.if-rest-gap.true)

pub returns-in_default : goal.returns-in_default
returns-in_default c =
    ends_fault c.loop-most.tokens c.loop-most.most c.loop-most.at c.gap_length-gap.result c.args.text.now
    c.loop-most.invariant.reached c.loop-most-test.true (simp whole_drop at c.gap_length-gap.ensures.gap) (simp whole_drop at c.if-rest-gap.false) (simp whole_drop at (sym c.in_default.ensures.token))

pub loop-most-preserved : goal.loop-most-preserved
loop-most-preserved c = record {
  within = grind (arith, common_steps);
  reached =
      let more = reached_more c.loop-most.tokens c.loop-most.most c.loop-most.at c.gap_length-gap.result c.args.text.now
      c.in-Some.kind c.in-Some.length c.loop-most.invariant.reached c.loop-most-test.true (simp whole_drop at c.gap_length-gap.ensures.gap) (simp whole_drop at c.if-rest-gap.false) (simp whole_drop at (sym c.in-Some.ensures.token)) in
      rw c.in_ok-push.ensures.ok more;
}

pub returns : goal.returns
returns c =
    ends_zero c.loop-most.tokens c.loop-most.most c.loop-most.at c.args.text.now
    c.loop-most.invariant.reached (omega arith)
