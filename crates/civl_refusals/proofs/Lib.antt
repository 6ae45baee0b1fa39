pub mod ScriptsStand
pub mod ScriptsFit
