-- What Debug Mode's writes and words of the program buffer keep: the laws that other crates take.
pub use Rattle.rv_model.proofs.DebugRegisterLemmas.{writes_keep, writes_read_back}
pub use Rattle.rv_model.proofs.ProgramBufferLemmas.{words_keep, exceptions_change_nothing, memory_needs_access, debug_needs_csr}
