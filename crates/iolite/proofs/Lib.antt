pub mod ScriptAnswers
pub mod Appends
pub mod Requests
pub mod CallNames
pub mod ReadTexts
pub mod ScriptWords
pub mod ScriptText
pub mod FourWords
