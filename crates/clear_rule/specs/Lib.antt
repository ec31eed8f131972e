-- First water for a ship: the rule, what an answer claims, what the search asks, and worked cases.
pub mod Clearance
pub mod Claim
pub mod Asked
pub mod Cases
