-- Re-exports the definitions that contracts of other crates cite. It declares nothing.
pub use Rattle.flash_http.specs.Range.{selected}
pub use Rattle.flash_http.specs.Request.{Answer, answer, refuse, serve, wanted}
pub use Rattle.flash_http.specs.Response.{head_text}
pub use Rattle.flash_http.specs.Window.{window_in}
