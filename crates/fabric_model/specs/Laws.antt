-- The laws of legal steps: each speaks of every list of steps that is legal from an empty network,
-- and of the network definitions alone.
pub mod History
pub mod Holding
pub mod Leaving
pub mod Freeing
pub mod Tables
pub mod Flows
pub mod Proper
pub mod Priorities
pub mod Room
pub mod Forms
pub mod Examples
pub mod Switches
pub mod Lawful
pub mod Nodes
pub mod Stock
