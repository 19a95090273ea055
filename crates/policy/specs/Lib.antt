pub mod Modes
pub mod Outlined
pub mod Wait
pub mod Links
pub mod Notes
pub mod Verdict
pub mod Checked
pub mod Examples
