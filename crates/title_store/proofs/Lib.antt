pub mod Indexed
pub mod Wholes
pub mod WrittenLines
pub mod Texts
pub mod RowByRow
pub mod Filling
pub mod ReadTitles
