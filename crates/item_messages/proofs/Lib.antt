pub mod Classes
pub mod Fitting
pub mod WishesAgain
pub mod ReportsAgain
pub mod RequestsAgain
