-- Public are the modules that crates above cite, each with what it is cited for: gt_linearization (each run of a monitor is a
-- run of the core), gt_explore_state and gt_explore_moves (a state of the search stays like a history), and gt_flow
-- (runs that differ only in bytes). A name that changes in one of these changes there too.

-- the names of these proofs
pub mod Words
-- what a domain knows of itself, and its open call, after an item
pub mod AgreementKept
-- the states of domains by their numbers
pub mod Rows
-- mappings and their handles
pub mod Mappings
pub mod HandlesGiven
-- what the beginning of a call answers and leaves
pub mod Beginning
-- which steps an open call may make, how it ends, and with which answer
pub mod Phases
pub mod EachStep
pub mod Outcomes
pub mod Values
pub mod Probes
-- what each kind of step changes, keeps and meets
pub mod Steps
-- what a step of an open call does, and one event more
pub mod Ticking
pub mod Playing
-- what each legal history has, and that it can continue
pub mod Entries
pub mod GoingOn
-- what is the same without the keys of handles
pub mod WithoutKeys
pub mod Pins
pub mod AlikeRuns
-- of this crate alone
mod PinPurposes
mod CallsOver
mod CallsStand
mod Legs
mod Performing
mod Placed
mod Showing
mod Starting
mod Stepping
mod TakenBack
mod Writing
