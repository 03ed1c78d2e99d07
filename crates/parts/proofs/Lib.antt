mod MadeTypes
mod Parts
