-- That a refused record changes nothing; small runs on the definitions.
pub mod Meaning
pub mod Runs
