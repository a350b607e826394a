mod Asked
mod Batch
mod Unplanned
