-- What the contracts of `floats` cite, beside the toolchain's `lib.Ieee`: the meaning of the public functions, which a reader must believe.
pub mod Order
