-- This file states worked values of the definitions: arithmetic at its edges, the tables of NOT, AND and OR with unknowns and
-- faults, and EXISTS over no rows, over nulls, over a fault and inside of another range.
use Rattle.std.specs.Prelude.{true, false, ◌≡◌, ℕ, [], ◌∷◌, ℤ, pos, negsuc, Result, None, Ok, Err}
use Rattle.iv_expr.specs.Types.{Value, Truth, StoredRow, Expr, Cond, ExprFault}
use Rattle.iv_expr.specs.Types.value.{Null, Int}
use Rattle.iv_expr.specs.Types.truth.{False, Unknown, True}
use Rattle.iv_expr.specs.Types.range.{Table}
use Rattle.iv_expr.specs.Types.expr.{Literal, Column}
use Rattle.iv_expr.specs.Types.comparison.{Equal, Less}
use Rattle.iv_expr.specs.Types.cond.{Always, Compare, IsNull}
use Rattle.iv_expr.specs.Types.expr_fault.{OutOfRange, IllTyped}
use Rattle.iv_expr.specs.Types.kind.{Integer, Varchar}
use Rattle.iv_expr.specs.Trees.{plus, minus, times, not_c, and_c, or_c, exists_c}
use Rattle.iv_expr.specs.Scopes.{Scope, scope_of, no_frame, alone}
use Rattle.iv_expr.specs.Suiting.{Shape, suits, Suits}
use Rattle.iv_expr.specs.Evaluation.{value, truth, check_truth}

-- A scope without tables, and literals.
abbrev nowhere : Scope
nowhere = scope_of no_frame []

abbrev number : ℤ → Expr
number z = Literal (Int z)

abbrev greatest : Expr
greatest = number (pos 9223372036854775807)

-- The greatest integer and one more.
abbrev beyond : Expr
beyond = plus greatest (number (pos 1))

-- A column that no scope without ranges has.
abbrev ill_typed : Expr
ill_typed = Column 0 0

-- 1 + 2 is 3; the least integer is reached and not passed; null makes null; the left fault comes first.
abbrev pub ArithmeticWorked : Type 0
ArithmeticWorked =
    (value nowhere (plus (number (pos 1)) (number (pos 2))) ≡ Ok (Int (pos 3)))
    × (value nowhere (minus (number (negsuc 9223372036854775806)) (number (pos 1))) ≡ Ok (Int (negsuc 9223372036854775807)))
    × (value nowhere beyond ≡ Err OutOfRange)
    × (value nowhere (times (number (negsuc 9223372036854775807)) (number (negsuc 0))) ≡ Err OutOfRange)
    × (value nowhere (minus (number (pos 0)) (number (negsuc 9223372036854775807))) ≡ Err OutOfRange)
    × (value nowhere (plus (Literal Null) greatest) ≡ Ok Null)
    × (value nowhere (plus (Literal Null) beyond) ≡ Err OutOfRange)
    × (value nowhere (plus beyond ill_typed) ≡ Err OutOfRange)
    × (value nowhere (plus ill_typed beyond) ≡ Err IllTyped)

-- A false, an unknown and a true condition, and one that is a fault.
abbrev f : Cond
f = not_c Always

abbrev u : Cond
u = Compare Equal (Literal Null) (Literal Null)

abbrev t : Cond
t = Always

abbrev x : Cond
x = Compare Equal beyond beyond

-- The truth of a condition without tables, and the fault.
abbrev here : Cond → Result Truth ExprFault
here = truth nowhere

abbrev is : Truth → Result Truth ExprFault
is = Ok

abbrev fault : Result Truth ExprFault
fault = Err OutOfRange

-- NOT of false, unknown, true and a fault; IS NULL is never unknown, and of a fault it is the fault.
abbrev pub NotWorked : Type 0
NotWorked =
    (here f ≡ is False) × (here u ≡ is Unknown) × (here t ≡ is True) × (here x ≡ fault)
    × (here (not_c f) ≡ is True) × (here (not_c u) ≡ is Unknown) × (here (not_c t) ≡ is False) × (here (not_c x) ≡ fault)
    × (here (IsNull (Literal Null)) ≡ is True) × (here (IsNull greatest) ≡ is False) × (here (IsNull beyond) ≡ fault)

-- AND, a row for each left side: false, unknown, true, a fault.
abbrev pub AndWorked : Type 0
AndWorked =
    (here (and_c f f) ≡ is False) × (here (and_c f u) ≡ is False) × (here (and_c f t) ≡ is False) × (here (and_c f x) ≡ fault)
    × (here (and_c u f) ≡ is False) × (here (and_c u u) ≡ is Unknown) × (here (and_c u t) ≡ is Unknown) × (here (and_c u x) ≡ fault)
    × (here (and_c t f) ≡ is False) × (here (and_c t u) ≡ is Unknown) × (here (and_c t t) ≡ is True) × (here (and_c t x) ≡ fault)
    × (here (and_c x f) ≡ fault) × (here (and_c x u) ≡ fault) × (here (and_c x t) ≡ fault) × (here (and_c x x) ≡ fault)

-- OR, a row for each left side: false, unknown, true, a fault.
abbrev pub OrWorked : Type 0
OrWorked =
    (here (or_c f f) ≡ is False) × (here (or_c f u) ≡ is Unknown) × (here (or_c f t) ≡ is True) × (here (or_c f x) ≡ fault)
    × (here (or_c u f) ≡ is Unknown) × (here (or_c u u) ≡ is Unknown) × (here (or_c u t) ≡ is True) × (here (or_c u x) ≡ fault)
    × (here (or_c t f) ≡ is True) × (here (or_c t u) ≡ is True) × (here (or_c t t) ≡ is True) × (here (or_c t x) ≡ fault)
    × (here (or_c x f) ≡ fault) × (here (or_c x u) ≡ fault) × (here (or_c x t) ≡ fault) × (here (or_c x x) ≡ fault)

-- Table 0 has the rows (1), (null) and (9223372036854775807); table 1 has only (1); table 2 has none.
abbrev stored : ℕ → ℕ → Value → StoredRow
stored table n v = record { table = table; number = n; values = v ∷ [] }

abbrev tables : Scope
tables = scope_of no_frame
    (stored 0 1 (Int (pos 1)) ∷ stored 1 2 (Int (pos 1)) ∷ stored 0 3 Null ∷ stored 0 4 (Int (pos 9223372036854775807)) ∷ [])

abbrev column : Expr
column = Column 0 0

abbrev outer : Expr
outer = Column 1 0

-- No row is true of an empty table, nor of only nulls; one true row is enough; a fault in the last row is the fault of all; an inner
-- condition names the column of the outer range.
abbrev pub ExistsWorked : Type 0
ExistsWorked =
    (truth tables (exists_c (Table 2) Always) ≡ is False)
    × (truth tables (exists_c (Table 2) x) ≡ is False)
    × (truth tables (exists_c (Table 0) u) ≡ is False)
    × (truth tables (exists_c (Table 0) (Compare Equal column greatest)) ≡ is True)
    × (truth tables (exists_c (Table 0) (Compare Less (plus column (number (pos 0))) greatest)) ≡ is True)
    × (truth tables (exists_c (Table 0) (Compare Less column (plus column (number (pos 1))))) ≡ fault)
    × (truth tables (exists_c (Table 1) (exists_c (Table 0) (Compare Less outer column))) ≡ is True)
    × (truth tables (exists_c (Table 1) (exists_c (Table 0) (Compare Less column outer))) ≡ is False)

-- In a CHECK a fault is false, and unknown stays unknown.
abbrev pub CheckWorked : Type 0
CheckWorked =
    (check_truth (Compare Less column (plus column (number (pos 1)))) (Int (pos 1) ∷ []) ≡ True)
    × (check_truth (Compare Less column (plus column (number (pos 1)))) (Null ∷ []) ≡ Unknown)
    × (check_truth (Compare Less column (plus column (number (pos 1)))) (Int (pos 9223372036854775807) ∷ []) ≡ False)

-- A range of an integer and a text of at most three characters.
abbrev pub shape : Shape
shape = record { ranges = (Integer ∷ Varchar 3 ∷ []) ∷ []; old = None; new = None; transition = []; tables = λ table. [] }

abbrev word : Expr
word = Column 0 1

-- Null suits each kind, and arithmetic on nulls is a number; an integer doesn't suit a text, nor a column that isn't there.
-- A row of an integer and a null has that shape, and a condition on it suits its scope.
abbrev pub SuitingWorked : Type 0
SuitingWorked =
    (suits shape (Compare Equal column (number (pos 1))) ≡ true)
    × (suits shape (Compare Equal word (Literal Null)) ≡ true)
    × (suits shape (Compare Equal column word) ≡ false)
    × (suits shape (Compare Equal word (plus (Literal Null) (Literal Null))) ≡ false)
    × (suits shape (IsNull (Column 0 2)) ≡ false)
    × Suits (alone (Int (pos 1) ∷ Null ∷ [])) (Compare Less column (plus column (number (pos 1))))
