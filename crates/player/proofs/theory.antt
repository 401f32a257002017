-- About the definitions alone: the first bad move in terms of legal lists, and rows worked by hand. Assumes nothing.
pub mod FirstBad
pub mod Rows
