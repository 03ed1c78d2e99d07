mod SeriesKeeps
