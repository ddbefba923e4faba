pub mod EqualSets
pub mod GossipSessions
pub mod Outcomes
pub mod RemovedKeys
pub mod ThroughHub
pub mod Told
