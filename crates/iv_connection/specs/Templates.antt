-- The statements that are read of a template, and why none are.
use Rattle.std.specs.Prelude.{◌≡◌, ◌≢◌, ℕ, List, length, Option, IfSome, option_map}
use Rattle.std.specs.Str.{IsUtf8}
use Rattle.iv_parse.specs.Script.{IsFault, IsScript}
use Rattle.iv_parse.specs.declared.parser.SyntaxFault.{SyntaxFault}
use Rattle.iv_syntax.specs.declared.statement.Statement.{Statement}
use Rattle.iv_template.specs.Holes.{HasHoles, StopsAt}
use Rattle.iv_template.specs.Places.{filled_text}
use Rattle.iv_template.specs.Templates.{Fills}
use Rattle.iv_value.specs.declared.value.Value.{Value}
use Rattle.iv_connection.specs.Statements.{place_shown}
use Rattle.iv_connection.specs.TemplateFaults.{template_fault}
use Rattle.iv_connection.specs.declared.statements.ReadScript.{ReadScript}
use Rattle.iv_shown.specs.declared.status.TheConstants.{NOT_UTF8, NO_MEMORY, WRONG_COUNT, NO_TEMPLATE}

-- The statements are those of the text that is the template with the values in place of its question marks, one for each. Its fault is told in
-- bytes of the template.
pub record IsScriptOfTemplate (template : List ℕ) (values : List Value) (statements : List Statement) (fault : Option SyntaxFault) : Type 0 where
  pub found : Option SyntaxFault
  pub fills : Fills template values (filled_text template values)
  pub script : IsScript (filled_text template values) statements (option_map (λ f. f.at) found)
  pub word : IfSome found (λ f. IsFault (filled_text template values) statements f)
  pub back : fault ≡ option_map (template_fault template values) found

-- What C reads of them is how many they are and where the fault begins in the template.
pub record IsReadOfTemplate (template : List ℕ) (values : List Value) (statements : List Statement) (fault : Option SyntaxFault) (shown : ReadScript) : Type 0 where
  pub script : IsScriptOfTemplate template values statements fault
  pub count : shown.statements ≡ length statements
  pub place : place_shown fault shown.has_fault shown.fault_at

-- Why a template isn't filled with these values: it has so many question marks, and there are not so many values; or it stops at a place
-- where there is neither a token nor a question mark; or memory was refused.
pub record WhyNotFilled (template : List ℕ) (values : List Value) (status : ℕ) : Type 0 where
  pub one_of : status ≢ WRONG_COUNT → status ≢ NO_TEMPLATE → status ≡ NO_MEMORY
  pub count : status ≡ WRONG_COUNT → (count : ℕ) × HasHoles template count × (count ≢ length values)
  pub stops : status ≡ NO_TEMPLATE → (place : ℕ) × StopsAt template place

-- so of a template that may be no UTF-8
pub record WhyNotRead (template : List ℕ) (values : List Value) (status : ℕ) : Type 0 where
  pub not_utf8 : status ≡ NOT_UTF8 → ¬ (IsUtf8 template)
  pub utf8 : status ≢ NOT_UTF8 → IsUtf8 template × WhyNotFilled template values status
