-- The types that the definitions here share.
pub use Rattle.iv_catalogue.specs.declared.catalogue.Table.{Table}
pub use Rattle.iv_catalogue.specs.declared.constraint.Constraint.{Constraint}
