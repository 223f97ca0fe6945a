use Rattle.sqlkeep_c.proofs.constraints.sqlkeep_constraint_condition.Goals as goal

pub returns-in-Ok-Some-clause-bytes : goal.returns-in-Ok-Some-clause-bytes
returns-in-Ok-Some-clause-bytes c = rw (← c.in-Some.ensures.taken, ← c.deref.ensures) (λ ok.
    rw (← (rw c.in-Ok-Some.field-0-is at c.in-Ok-Some.ensures.text), ← c.as_str.ensures.value, ← c.as_bytes.ensures.value) c.copied.ensures)
