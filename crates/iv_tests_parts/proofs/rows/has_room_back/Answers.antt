use Rattle.std.proofs.Common.{◌≡◌, ℕ, ◌<◌, List, Some, length, refl, arith}
use Rattle.std.proofs.lemmas.Option.{slice_get_read, slice_get_within}
use Rattle.iv_value.specs.declared.value.Value.{Value}
use Rattle.iv_catalogue.specs.declared.constraint.Constraint.{Constraint}
use Rattle.iv_store_groups.specs.Groups.{groups_of, room_of}
use Rattle.iv_store_following.specs.BorrowedChange.{side_key}
use Rattle.iv_tests_parts.proofs.TakenBack.{next_place}
use Rattle.iv_tests_parts.proofs.rows.has_room_back.Goals as goal

pub loop-place-preserved : goal.loop-place-preserved
loop-place-preserved c =
    next_place (λ (k : ℕ) (d : Constraint). (key : List Value) → side_key d c.args.change.now.table c.args.change.now.old ≡ Some key → 0 < room_of (groups_of c.args.groups.now.groups k) key)
    c.args.constraints.now c.loop-place.place c.index-constraints-place.result
    (slice_get_read c.args.constraints.now (length c.args.constraints.now) c.loop-place.place c.index-constraints-place.result refl c.loop-place-test.true c.index-constraints-place.is) (c.has_room_at.ensures c.if-not-has_room_at.false) c.loop-place.invariant

pub returns : goal.returns
returns c = λ _ k d key at apart is. c.loop-place.invariant k d (omega (arith, c.loop-place-test.false, slice_get_within c.args.constraints.now k d at)) at key is
