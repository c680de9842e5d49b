pub mod Cells
pub mod Outcomes
pub mod Heights
pub mod Adding
pub mod RowDerivatives
pub mod SubstitutedRows
pub mod ShiftedRows
pub mod ShiftedDegrees
