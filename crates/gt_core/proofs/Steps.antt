-- The steps of calls, one file for each kind: what it changes and keeps of what a core represents, what it depends
-- on, which rule it meets, and how its call continues. See has what each of them sees.
pub mod Access
pub mod Exchange
pub mod Look
pub mod Pin
pub mod See
pub mod Store
pub mod Unpin
pub mod Write
