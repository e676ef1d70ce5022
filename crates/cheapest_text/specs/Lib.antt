pub mod Cheapest
