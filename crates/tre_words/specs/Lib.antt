-- What a reader must believe: the command line as `clap` sees it, and which job words give.
pub mod CommandLine
pub mod Job
pub mod Settings
