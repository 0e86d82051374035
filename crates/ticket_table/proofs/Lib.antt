pub mod TicketLists
pub mod TicketOrders
mod TicketEntries
