pub mod TreeShapes
