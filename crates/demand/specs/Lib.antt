pub mod SmallJobs
