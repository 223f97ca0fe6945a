-- The fault of a filled text, in bytes of its template.
use Rattle.std.specs.Prelude.{ℕ, zero, suc, List, option_map}
use Rattle.iv_lex.specs.declared.token.Token.{Token}
use Rattle.iv_parse.specs.declared.parser.SyntaxFault.{SyntaxFault}
use Rattle.iv_template.specs.Places.{template_place}
use Rattle.iv_value.specs.declared.value.Value.{Value}

-- where something ends: behind the byte of the template that its last byte stands for
abbrev pub template_end : List ℕ → List Value → ℕ → ℕ
template_end template values zero = zero
template_end template values (suc last) = suc (template_place template values last)

abbrev pub template_token : List ℕ → List Value → Token → Token
template_token template values t = record t { start = template_place template values t.start; end = template_end template values t.end }

-- each place of a fault
abbrev pub template_fault : List ℕ → List Value → SyntaxFault → SyntaxFault
template_fault template values f = record f {
  at = template_place template values f.at;
  word = template_place template values f.word;
  token = option_map (template_token template values) f.token;
  before = option_map (template_token template values) f.before;
}
